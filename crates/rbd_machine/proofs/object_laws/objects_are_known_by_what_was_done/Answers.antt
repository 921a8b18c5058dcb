use Rattle.std.proofs.Common.{true, Some, None}
use Rattle.rbd_machine.specs.Knowledge.{blanked, found, found_where, made}
use Rattle.rbd_machine.proofs.Objects.{absent_now, none_there, shown_alone, shown_in_turn, shown_to_others, there_by, there_last, there_no_more}
use Rattle.rbd_machine.proofs.object_laws.objects_are_known_by_what_was_done.Goals as goal

pub returns-clause-written : goal.returns-clause-written
returns-clause-written c = λ k site image number context must parts bytes. there_by k site image number (made number) (there_last k site image number)

pub returns-clause-replaced : goal.returns-clause-replaced
returns-clause-replaced c = λ k site image number context bytes. there_by k site image number (made number) (there_last k site image number)

pub returns-clause-emptied : goal.returns-clause-emptied
returns-clause-emptied c = λ k site image number context. there_by k site image number (λ o. blanked number None (made number o)) (there_last k site image number)

pub returns-clause-zeroed : goal.returns-clause-zeroed
returns-clause-zeroed c = λ k site image number context parts. there_by k site image number (λ o. blanked number (Some parts) (found_where true number o)) (there_last k site image number)

pub returns-clause-copied : goal.returns-clause-copied
returns-clause-copied c = λ k site image number bytes. there_by k site image number (made number) (there_last k site image number)

pub returns-clause-met : goal.returns-clause-met
returns-clause-met c = λ k site image number bytes. there_by k site image number (found number) (there_last k site image number)

pub returns-clause-removed : goal.returns-clause-removed
returns-clause-removed c = λ k site image number context. (absent_now k site image number, there_no_more k site image number)

pub returns-clause-alone : goal.returns-clause-alone
returns-clause-alone c = shown_alone

pub returns-clause-turn : goal.returns-clause-turn
returns-clause-turn c = shown_in_turn

pub returns-clause-others : goal.returns-clause-others
returns-clause-others c = shown_to_others

pub returns-clause-detached : goal.returns-clause-detached
returns-clause-detached c = none_there
