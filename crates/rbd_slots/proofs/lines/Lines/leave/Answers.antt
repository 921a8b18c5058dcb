use Rattle.std.proofs.Common.{sym, subst}
use Rattle.rbd_slots.specs.Lines.{AreUsed, LinesView}
use Rattle.rbd_slots.proofs.lines.Lines.leave.Goals as goal

pub returns-clause-used : goal.returns-clause-used
returns-clause-used c = λ were. c.forget_empty.ensures.used (c.leave_in.ensures.used (subst (λ (v : LinesView). AreUsed v.entries) (sym c.self.view_is) were))
