use Rattle.rbd_machine.proofs.OwnSteps.{others_are_left, own_are_left, pass_keeps_own}
use Rattle.rbd_machine.proofs.laws.looks_above_are_apart.Goals as goal

pub returns-clause-bound : goal.returns-clause-bound
returns-clause-bound c = λ images plan n feds. pass_keeps_own feds images plan n

pub returns-clause-others : goal.returns-clause-others
returns-clause-others c = others_are_left

pub returns-clause-own : goal.returns-clause-own
returns-clause-own c = own_are_left
