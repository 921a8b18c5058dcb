use Rattle.rbd_image.proofs.RemovalsLawful.{lawful_plan, lawful_remove}
use Rattle.rbd_image.proofs.removal_laws.removals_are_lawful.Goals as goal

pub returns-clause-part : goal.returns-clause-part
returns-clause-part c = λ at k site image h next owns none unlinked quiet ends. lawful_remove at site image next ends k h owns none unlinked quiet

pub returns-clause-request : goal.returns-clause-request
returns-clause-request c = lawful_plan
