use Rattle.rbd_image.proofs.RemovalsBounded.{bounded_each, few_removals, part_is_short, request_is_short}
use Rattle.rbd_image.proofs.removal_laws.removals_are_bounded.Goals as goal

pub returns-clause-each : goal.returns-clause-each
returns-clause-each c = bounded_each

pub returns-clause-few : goal.returns-clause-few
returns-clause-few c = few_removals

pub returns-clause-part : goal.returns-clause-part
returns-clause-part c = part_is_short

pub returns-clause-request : goal.returns-clause-request
returns-clause-request c = request_is_short
