use Rattle.std.proofs.Common.{◌≡◌, ◌+◌, ◌-◌, ◌/◌, ◌<◌, ◌++◌, List, ℕ, length, replicate, refl, sym, ◌∙◌, arith, vec_len}
use Rattle.std.proofs.lemmas.List.{append-nil}
use Rattle.rbd_map.specs.States.{states_of, bits_of}
use Rattle.rbd_map.proofs.Packing.{length-states_of, is_packed, states_back, resized, resized_length, are_states-padded}
use Rattle.rbd_map.proofs.map.ObjectMap.resize.Goals as goal

pub invariant_of-self-then-self-count : goal.invariant_of-self-then-self-count
invariant_of-self-then-self-count c =
    let bytes : List ℕ = c.self.inside.bytes.items in
    let count : ℕ = c.self.inside.count in
    let less : count < c.args.count = omega arith in
    let len : vec_len c.self.inside.bytes ≡ length bytes = c.self.inside.bytes.ok.0 in
    let is : c.resize.new.self.items ≡ bits_of (states_of bytes count ++ replicate (c.args.count - count) 0)
    = resized bytes c.resize.new.self.items count (vec_len c.self.inside.bytes) ((c.args.count + 3) / 4) c.args.count c.self.invariant len less refl c.in_ok-resize.ensures.items in
    is_packed c.resize.new.self.items (states_of bytes count ++ replicate (c.args.count - count) 0) c.args.count is
    (resized_length bytes count c.args.count less) (are_states-padded (states_of bytes count) (c.args.count - count) c.self.invariant.states)

pub returns-in_ok-resize-clause-ok : goal.returns-in_ok-resize-clause-ok
returns-in_ok-resize-clause-ok c =
    let bytes : List ℕ = c.self.inside.bytes.items in
    let count : ℕ = c.self.inside.count in
    let less : count < c.args.count = omega arith in
    let len : vec_len c.self.inside.bytes ≡ length bytes = c.self.inside.bytes.ok.0 in
    let is : c.resize.new.self.items ≡ bits_of (states_of bytes count ++ replicate (c.args.count - count) 0)
    = resized bytes c.resize.new.self.items count (vec_len c.self.inside.bytes) ((c.args.count + 3) / 4) c.args.count c.self.invariant len less refl c.in_ok-resize.ensures.items in
    states_back c.resize.new.self.items (states_of bytes count ++ replicate (c.args.count - count) 0) c.args.count is
    (resized_length bytes count c.args.count less) (are_states-padded (states_of bytes count) (c.args.count - count) c.self.invariant.states)
    ∙ rw (← c.self.view_is, length-states_of bytes count) refl

pub returns-else-self-count-clause-ok : goal.returns-else-self-count-clause-ok
returns-else-self-count-clause-ok c =
    let none : c.args.count - c.self.inside.count ≡ 0 = omega arith in
    rw (← c.self.view_is, length-states_of c.self.inside.bytes.items c.self.inside.count, none)
    (sym (append-nil (states_of c.self.inside.bytes.items c.self.inside.count)))
