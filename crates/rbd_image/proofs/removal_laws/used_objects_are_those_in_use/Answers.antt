use Rattle.rbd_image.proofs.UsedObjects.{are_in_use, ascend}
use Rattle.rbd_image.proofs.removal_laws.used_objects_are_those_in_use.Goals as goal

pub returns-clause-states : goal.returns-clause-states
returns-clause-states c = are_in_use

pub returns-clause-ascending : goal.returns-clause-ascending
returns-clause-ascending c = ascend
