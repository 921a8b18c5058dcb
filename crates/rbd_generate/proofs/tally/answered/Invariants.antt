use Rattle.std.proofs.Common.{take}
use Rattle.rbd_generate.specs.Summary.{HasRepliesFor}
use Rattle.rbd_generate.proofs.tally.answered.Given as goal

abbrev pub invariant-loop-entry : goal.invariant-loop-entry
invariant-loop-entry l = HasRepliesFor (take l.entry-index l.fn.history) l.lines
