use Rattle.std.proofs.Common.{◌≡◌, ◌+◌, ◌/◌, List, ℕ, length, get_or, set, refl, sym, ap, ◌∙◌, arith, vec_len}
use Rattle.std.proofs.lemmas.List.{get_or_read, length-set}
use Rattle.rbd_kinds.specs.States.{state_at}
use Rattle.rbd_map.specs.States.{states_of}
use Rattle.rbd_map.proofs.Packing.{length-states_of, length_packed, is_packed, states_back, changed, changed_fits, are_states-set}
use Rattle.rbd_map.proofs.map.ObjectMap.set.Goals as goal

pub state_in-old-requires : goal.state_in-old-requires
state_in-old-requires c =
    let n : length c.self.inside.bytes.items ≡ (c.self.inside.count + 3) / 4 = length_packed c.self.inside.bytes.items c.self.inside.count c.self.invariant in
    let m : length c.args.self.now ≡ c.self.inside.count = ap length (sym c.self.view_is) ∙ length-states_of c.self.inside.bytes.items c.self.inside.count in
    rw c.as_slice.ensures.value (omega arith)

pub index-requires : goal.index-requires
index-requires c =
    let n : length c.self.inside.bytes.items ≡ (c.self.inside.count + 3) / 4 = length_packed c.self.inside.bytes.items c.self.inside.count c.self.invariant in
    let m : length c.args.self.now ≡ c.self.inside.count = ap length (sym c.self.view_is) ∙ length-states_of c.self.inside.bytes.items c.self.inside.count in
    let l : vec_len c.self.inside.bytes ≡ length c.self.inside.bytes.items = c.self.inside.bytes.ok.0 in
    omega arith

pub index_mut-requires : goal.index_mut-requires
index_mut-requires c =
    let n : length c.self.inside.bytes.items ≡ (c.self.inside.count + 3) / 4 = length_packed c.self.inside.bytes.items c.self.inside.count c.self.invariant in
    let m : length c.args.self.now ≡ c.self.inside.count = ap length (sym c.self.view_is) ∙ length-states_of c.self.inside.bytes.items c.self.inside.count in
    let l : vec_len c.self.inside.bytes ≡ length c.self.inside.bytes.items = c.self.inside.bytes.ok.0 in
    omega arith

pub overflow_add-index : goal.overflow_add-index
overflow_add-index c =
    let bytes : List ℕ = c.self.inside.bytes.items in
    let n : length bytes ≡ (c.self.inside.count + 3) / 4 = length_packed bytes c.self.inside.count c.self.invariant in
    let m : length c.args.self.now ≡ c.self.inside.count = ap length (sym c.self.view_is) ∙ length-states_of bytes c.self.inside.count in
    let byte : c.index.result.now ≡ get_or bytes (c.args.object / 4) 0 = get_or_read bytes (c.args.object / 4) c.index.result.now (omega arith) c.index.ensures 0 in
    let old : c.state_in-old.result ≡ state_at bytes c.args.object = c.state_in-old.ensures ∙ ap (λ b. state_at b c.args.object) c.as_slice.ensures.value in
    let small = changed_fits bytes c.self.inside.count c.args.object c.args.state c.self.invariant (omega arith) c.requires.state in
    rw (byte, old, c.weight_of-weight.ensures) (omega arith)

pub invariant_of-self : goal.invariant_of-self
invariant_of-self c =
    let bytes : List ℕ = c.self.inside.bytes.items in
    let count : ℕ = c.self.inside.count in
    let n : length bytes ≡ (count + 3) / 4 = length_packed bytes count c.self.invariant in
    let s : length (states_of bytes count) ≡ count = length-states_of bytes count in
    let m : length c.args.self.now ≡ count = ap length (sym c.self.view_is) ∙ s in
    let byte : c.index.result.now ≡ get_or bytes (c.args.object / 4) 0 = get_or_read bytes (c.args.object / 4) c.index.result.now (omega arith) c.index.ensures 0 in
    let old : c.state_in-old.result ≡ state_at bytes c.args.object = c.state_in-old.ensures ∙ ap (λ b. state_at b c.args.object) c.as_slice.ensures.value in
    is_packed _ (set (states_of bytes count) c.args.object c.args.state) count
    (changed bytes count c.args.object c.args.state _ c.self.invariant (omega arith) (rw (byte, old, c.weight_of-weight.ensures) refl))
    (length-set (states_of bytes count) c.args.object c.args.state ∙ s)
    (are_states-set (states_of bytes count) c.args.object c.args.state c.self.invariant.states c.requires.state)

pub returns : goal.returns
returns c =
    let bytes : List ℕ = c.self.inside.bytes.items in
    let count : ℕ = c.self.inside.count in
    let n : length bytes ≡ (count + 3) / 4 = length_packed bytes count c.self.invariant in
    let s : length (states_of bytes count) ≡ count = length-states_of bytes count in
    let m : length c.args.self.now ≡ count = ap length (sym c.self.view_is) ∙ s in
    let byte : c.index.result.now ≡ get_or bytes (c.args.object / 4) 0 = get_or_read bytes (c.args.object / 4) c.index.result.now (omega arith) c.index.ensures 0 in
    let old : c.state_in-old.result ≡ state_at bytes c.args.object = c.state_in-old.ensures ∙ ap (λ b. state_at b c.args.object) c.as_slice.ensures.value in
    states_back _ (set (states_of bytes count) c.args.object c.args.state) count
    (changed bytes count c.args.object c.args.state _ c.self.invariant (omega arith) (rw (byte, old, c.weight_of-weight.ensures) refl))
    (length-set (states_of bytes count) c.args.object c.args.state ∙ s)
    (are_states-set (states_of bytes count) c.args.object c.args.state c.self.invariant.states c.requires.state)
    ∙ ap (λ states. set states c.args.object c.args.state) c.self.view_is
