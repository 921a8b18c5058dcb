use Rattle.rbd_machine.proofs.AtLeast.{lawful_by_more, learned_more, permits_more, possible_less, waited_more}
use Rattle.rbd_machine.proofs.laws.who_knows_more_may_do_more.Goals as goal

pub returns-clause-permits : goal.returns-clause-permits
returns-clause-permits c = λ more less site op at_least permits. permits_more more less at_least site op permits

pub returns-clause-told : goal.returns-clause-told
returns-clause-told c = λ more less site op answer at_least possible. possible_less more less at_least site op answer possible

pub returns-clause-learned : goal.returns-clause-learned
returns-clause-learned c = λ more less site op answer at_least. learned_more more less at_least site op answer

pub returns-clause-waited : goal.returns-clause-waited
returns-clause-waited c = λ more less wait at_least. waited_more more less at_least wait

pub returns-clause-lawful : goal.returns-clause-lawful
returns-clause-lawful c = lawful_by_more
