use Rattle.std.proofs.Common.{◌≡◌, ◌+◌, ◌/◌, length, take, count_by, ap, ◌∙◌, arith}
use Rattle.rbd_map.specs.States.{states_of, is_used}
use Rattle.rbd_map.proofs.Packing.{length_packed, take-states_of}
use Rattle.rbd_map.proofs.map.ObjectMap.used.Goals as goal

pub used_in-requires : goal.used_in-requires
used_in-requires c =
    let n : length c.self.inside.bytes.items ≡ (c.self.inside.count + 3) / 4 = length_packed c.self.inside.bytes.items c.self.inside.count c.self.invariant in
    rw c.as_slice.ensures.value (omega arith)

pub returns : goal.returns
returns c =
    c.used_in.ensures ∙ ap (λ b. count_by is_used (states_of b c.min.result)) c.as_slice.ensures.value
    ∙ ap (count_by is_used) (take-states_of c.self.inside.bytes.items c.self.inside.count c.args.count c.min.result c.min.ensures)
    ∙ ap (λ states. count_by is_used (take c.args.count states)) c.self.view_is
