use Rattle.std.proofs.Common.{◌≡◌, ◌+◌, ◌/◌, length, get_or, sym, ap, ◌∙◌, arith}
use Rattle.std.proofs.lemmas.List.{get_or_past}
use Rattle.std.proofs.lemmas.List.FromFn.{get_or-map-range_with_len}
use Rattle.rbd_kinds.specs.States.{state_at}
use Rattle.rbd_map.specs.States.{states_of}
use Rattle.rbd_map.proofs.Packing.{length-states_of, length_packed, below_3}
use Rattle.rbd_map.proofs.map.ObjectMap.get.Goals as goal

pub state_in-requires : goal.state_in-requires
state_in-requires c =
    let n : length c.self.inside.bytes.items ≡ (c.self.inside.count + 3) / 4 = length_packed c.self.inside.bytes.items c.self.inside.count c.self.invariant in
    rw c.as_slice.ensures.value (omega arith)

pub returns-then-object-self-clause-value : goal.returns-then-object-self-clause-value
returns-then-object-self-clause-value c =
    c.state_in.ensures ∙ ap (λ b. state_at b c.args.object) c.as_slice.ensures.value
    ∙ sym (get_or-map-range_with_len (state_at c.self.inside.bytes.items) 0 c.self.inside.count c.args.object c.args.object 0 (omega arith) (omega arith))
    ∙ ap (λ states. get_or states c.args.object 0) c.self.view_is

pub returns-then-object-self-clause-state : goal.returns-then-object-self-clause-state
returns-then-object-self-clause-state c =
    rw (returns-then-object-self-clause-value c, ← c.self.view_is)
    (below_3 (states_of c.self.inside.bytes.items c.self.inside.count) c.self.invariant.states c.args.object)

pub returns-else-object-self-clause-value : goal.returns-else-object-self-clause-value
returns-else-object-self-clause-value c =
    rw (← c.self.view_is)
    (sym (get_or_past (states_of c.self.inside.bytes.items c.self.inside.count) c.args.object 0
    (rw (length-states_of c.self.inside.bytes.items c.self.inside.count) (omega arith))))
