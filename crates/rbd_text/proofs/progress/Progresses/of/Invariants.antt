use Rattle.std.proofs.Common.{take}
use Rattle.rbd_text.specs.Progress.{AreProgressesOf}
use Rattle.rbd_text.proofs.progress.Progresses.of.Given as goal

abbrev pub invariant-loop-entry : goal.invariant-loop-entry
invariant-loop-entry l = AreProgressesOf l.a l.b (take l.entry-index l.history) l.all
