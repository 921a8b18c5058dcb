use Rattle.rbd_stands.proofs.MapSteps.{zeros_past}
use Rattle.rbd_stands.proofs.maps.past_the_size_are_zeros.Goals as goal

pub returns : goal.returns
returns c = zeros_past
