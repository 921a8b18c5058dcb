use Rattle.std.proofs.Common.{sym, ◌∙◌}
use Rattle.std.proofs.lemmas.Bool.{true≢false}
use Rattle.rbd_machine.proofs.Fences.{held_by_somebody, held_alone, held_unlooked}
use Rattle.rbd_machine.proofs.laws.locks_end_by_what_is_known.Goals as goal

pub returns-clause-broken : goal.returns-clause-broken
returns-clause-broken c = λ k site image owner unknown permits. true≢false (sym permits ∙ unknown)

pub returns-clause-unheld : goal.returns-clause-unheld
returns-clause-unheld c = λ k site image none permits. held_by_somebody k site image permits none

pub returns-clause-shared : goal.returns-clause-shared
returns-clause-shared c = λ k site image sharing header shared is permits. held_alone k site image permits sharing header shared is

pub returns-clause-looked : goal.returns-clause-looked
returns-clause-looked c = λ k site image sharing h is permits. held_unlooked k site image permits sharing h is
