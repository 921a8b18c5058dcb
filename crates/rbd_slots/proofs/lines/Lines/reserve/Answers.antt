use Rattle.std.proofs.Common.{sym, subst}
use Rattle.rbd_slots.specs.Lines.{AreUsed, IsUsed, LinesView}
use Rattle.rbd_slots.proofs.lines.Lines.reserve.Goals as goal

pub returns-in_err-make_unused-clause-used : goal.returns-in_err-make_unused-clause-used
returns-in_err-make_unused-clause-used c = λ were. subst (λ (v : LinesView). AreUsed v.entries) (sym c.self.view_is) were

pub returns-in_err-make_room-clause-used : goal.returns-in_err-make_room-clause-used
returns-in_err-make_room-clause-used c = λ were key.
    subst IsUsed (sym (c.make_room.ensures.lines key)) (subst (λ (v : LinesView). AreUsed v.entries) (sym c.self.view_is) were key)

pub returns-in-Some-clause-used : goal.returns-in-Some-clause-used
returns-in-Some-clause-used c = λ were.
    c.reserve_in.ensures.used (λ key. subst IsUsed (sym (c.make_room.ensures.lines key)) (subst (λ (v : LinesView). AreUsed v.entries) (sym c.self.view_is) were key))

pub returns-in-None-clause-used : goal.returns-in-None-clause-used
returns-in-None-clause-used c = λ were key.
    subst IsUsed (sym (c.make_room.ensures.lines key)) (subst (λ (v : LinesView). AreUsed v.entries) (sym c.self.view_is) were key)
