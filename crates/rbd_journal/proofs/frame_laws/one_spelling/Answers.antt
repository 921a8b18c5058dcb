use Rattle.std.proofs.Common.{sym, ◌∙◌, []}
use Rattle.std.proofs.lemmas.List.{append-nil}
use Rattle.rbd_kinds.specs.Frame.{frame}
use Rattle.rbd_journal.proofs.Told.{one_frame}
use Rattle.rbd_journal.proofs.frame_laws.one_spelling.Goals as goal

pub returns : goal.returns
returns c = λ e f in_e in_f same. (one_frame e f [] [] in_e in_f (append-nil (frame e) ∙ same ∙ sym (append-nil (frame f)))).0
