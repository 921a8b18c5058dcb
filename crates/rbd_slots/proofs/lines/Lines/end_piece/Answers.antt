use Rattle.std.proofs.Common.{is_some, sym, ap, subst}
use Rattle.rbd_queue.specs.Line.{next_piece}
use Rattle.rbd_slots.specs.Lines.{AreUsed, IsUsed, LinesView}
use Rattle.rbd_slots.proofs.Tables.{some_changed, used_put}
use Rattle.rbd_slots.proofs.lines.Lines.end_piece.Goals as goal

pub returns-in_default-get_mut-clause-used : goal.returns-in_default-get_mut-clause-used
returns-in_default-get_mut-clause-used c = λ were.
    subst AreUsed (sym (ap (λ m. m.entries) c.get_mut.follows.holds-at-none)) (subst (λ (v : LinesView). AreUsed v.entries) (sym c.self.view_is) were)

pub returns-clause-used : goal.returns-clause-used
returns-clause-used c = λ were.
    let used = subst (λ (v : LinesView). AreUsed v.entries) (sym c.self.view_is) were in
    let made = c.end_piece.new.self in
    used_put c.self.inside.lines.entries (c.get_mut.follows.lender made).entries c.key.result made
    (((c.get_mut.follows.holds made).3 (ap is_some (sym c.in-Some-get_mut.ensures.value))).0)
    (some_changed c.args.slot next_piece c.in-Some-get_mut.line.now.members made.members c.end_piece.ensures.members
    (subst IsUsed (sym c.in-Some-get_mut.ensures.value) (used c.key.result)))
    used
