use Rattle.rbd_client.specs.Seen.{as_is}
use Rattle.rbd_world.proofs.Events.{calls_keep}
use Rattle.rbd_world.proofs.laws.lists_of_events_are_runs.Goals as goal

pub returns : goal.returns
returns c = calls_keep as_is
