use Rattle.rbd_catalog.proofs.Bounded.{command_asks_own, command_is_bounded, first_pass_is_bounded, later_pass_is_bounded, walk_of_command_is_bounded}
use Rattle.rbd_catalog.proofs.laws.commands_are_bounded.Goals as goal

pub returns-clause-pass : goal.returns-clause-pass
returns-clause-pass c = command_is_bounded

pub returns-clause-own : goal.returns-clause-own
returns-clause-own c = command_asks_own

pub returns-clause-all : goal.returns-clause-all
returns-clause-all c = walk_of_command_is_bounded

pub returns-clause-first : goal.returns-clause-first
returns-clause-first c = first_pass_is_bounded

pub returns-clause-again : goal.returns-clause-again
returns-clause-again c = λ seat command s most feds steps last label plan few given. later_pass_is_bounded seat command s most feds steps last plan few given label
