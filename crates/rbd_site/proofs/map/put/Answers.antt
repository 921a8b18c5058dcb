use Rattle.std.proofs.Common.{◌*◌, length, Some, ap, ◌∙◌}
use Rattle.rbd_map.specs.States.{states_of}
use Rattle.rbd_site.proofs.MapLemmas.{held_states, map_put}
use Rattle.rbd_site.proofs.map.put.Goals as goal

pub from_bits-requires-clause-states : goal.from_bits-requires-clause-states
from_bits-requires-clause-states c = held_states c.args.bits.now c.requires.states (4 * c.len.result)

pub returns-clause-ok : goal.returns-clause-ok
returns-clause-ok c = λ image view.
    map_put c.args.maps.now c.insert.new.self c.args.key (Some c.in_ok-map.map)
    (Some (states_of c.args.bits.now (4 * length c.args.bits.now)))
    c.in_ok-insert.ensures.updates.0
    (ap Some (c.in_ok-map.ensures ∙ ap (λ n. states_of c.args.bits.now (4 * n)) c.len.ensures))
    image view
