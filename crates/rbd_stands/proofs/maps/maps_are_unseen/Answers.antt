use Rattle.rbd_stands.proofs.MapSteps.{map_stands}
use Rattle.rbd_stands.proofs.NoEffect.{mapped_none}
use Rattle.rbd_stands.proofs.maps.maps_are_unseen.Goals as goal

pub returns-clause-stands : goal.returns-clause-stands
returns-clause-stands c = map_stands

pub returns-clause-effect : goal.returns-clause-effect
returns-clause-effect c = mapped_none
