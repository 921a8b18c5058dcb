use Rattle.rbd_client.specs.Seen.{as_is}
use Rattle.rbd_world.proofs.Owes.{rested_exact}
use Rattle.rbd_world.proofs.laws.maps_are_exact_at_rest.Goals as goal

pub returns : goal.returns
returns c = λ w sound s image h calm is rests. rested_exact as_is w sound calm s image h is rests
