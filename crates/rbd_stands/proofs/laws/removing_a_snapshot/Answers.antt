use Rattle.rbd_stands.proofs.EditSteps.{unnamed}
use Rattle.rbd_stands.proofs.ImageSteps.{unsnap_stands}
use Rattle.rbd_stands.proofs.laws.removing_a_snapshot.Goals as goal

pub returns-clause-stands : goal.returns-clause-stands
returns-clause-stands c = unsnap_stands

pub returns-clause-unnamed : goal.returns-clause-unnamed
returns-clause-unnamed c = unnamed
