use Rattle.std.proofs.Common.{◌≡◌, ap, ◌∙◌}
use Rattle.rbd_map.specs.States.{states_of, bits_of}
use Rattle.rbd_map.proofs.Packing.{length-states_of, is_packed, states_back}
use Rattle.rbd_map.proofs.map.ObjectMap.from_bits.Goals as goal

pub invariant_of-result : goal.invariant_of-result
invariant_of-result c =
    let is : c.in_ok-first_states.field-0.items ≡ bits_of (states_of c.args.bits.now c.args.count)
    = c.in_ok-first_states.ensures ∙ ap (λ b. bits_of (states_of b c.args.count)) c.as_slice.ensures in
    is_packed c.in_ok-first_states.field-0.items (states_of c.args.bits.now c.args.count) c.args.count is (length-states_of c.args.bits.now c.args.count) c.requires.states

pub returns : goal.returns
returns c =
    let is : c.in_ok-first_states.field-0.items ≡ bits_of (states_of c.args.bits.now c.args.count)
    = c.in_ok-first_states.ensures ∙ ap (λ b. bits_of (states_of b c.args.count)) c.as_slice.ensures in
    states_back c.in_ok-first_states.field-0.items (states_of c.args.bits.now c.args.count) c.args.count is (length-states_of c.args.bits.now c.args.count) c.requires.states
