use Rattle.std.proofs.Common.{sym, ◌∙◌, []}
use Rattle.std.proofs.lemmas.List.{append-nil}
use Rattle.rbd_kinds.specs.Frame.{frame}
use Rattle.rbd_journal.proofs.Told.{one_frame}
use Rattle.rbd_journal.proofs.frame_laws.no_frame_begins_another.Goals as goal

pub returns-clause-prefix : goal.returns-clause-prefix
returns-clause-prefix c = λ e f more in_e in_f same. (one_frame e f more [] in_e in_f (same ∙ sym (append-nil (frame f)))).1

pub returns-clause-event : goal.returns-clause-event
returns-clause-event c = λ e f x y in_e in_f same. (one_frame e f x y in_e in_f same).0

pub returns-clause-rest : goal.returns-clause-rest
returns-clause-rest c = λ e f x y in_e in_f same. (one_frame e f x y in_e in_f same).1
