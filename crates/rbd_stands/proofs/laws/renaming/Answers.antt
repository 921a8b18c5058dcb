use Rattle.rbd_stands.proofs.DirectorySteps.{rename_stands}
use Rattle.rbd_stands.proofs.laws.renaming.Goals as goal

pub returns : goal.returns
returns c = rename_stands
