use Rattle.std.proofs.Common.{◌≤◌, ◌∙◌, ap, sym, subst}
use Rattle.rbd_queue.specs.Line.{LineView, without}
use Rattle.rbd_queue.specs.Turns.{holders, held_by}
use Rattle.rbd_queue.proofs.Views.{Holds, members_of, after_leave}
use Rattle.rbd_queue.proofs.line.Line.leave.Goals as goal

after : (c : goal.After-leave_at)
    → Holds (λ slot. held_by slot c.leave.new.self) (λ object. holders object c.leave.new.self) c.leave_at.new.members.items
    (without c.args.slot (members_of (λ slot. held_by slot c.self.inside.turns) c.self.inside.standings.items))
after c =
    subst
    (λ items. Holds (λ slot. held_by slot c.leave.new.self) (λ object. holders object c.leave.new.self) items
    (without c.args.slot (members_of (λ slot. held_by slot c.self.inside.turns) c.self.inside.standings.items)))
    (sym c.leave_at.ensures.members)
    (after_leave (λ slot. held_by slot c.self.inside.turns) (λ object. holders object c.self.inside.turns) (λ slot. held_by slot c.leave.new.self) (λ object. holders object c.leave.new.self)
    c.self.inside.standings.items c.args.slot c.leave.ensures.holders c.leave.ensures.held c.self.invariant.1)

pub invariant_of-self : goal.invariant_of-self
invariant_of-self c = (subst (λ n. 64 ≤ n) (sym c.leave_at.ensures.room) c.self.invariant.0, (after c).kept)

pub returns-clause-members : goal.returns-clause-members
returns-clause-members c = (after c).seen ∙ ap (λ (l : LineView). without c.args.slot l.members) c.self.view_is

pub returns-clause-sound : goal.returns-clause-sound
returns-clause-sound c = (after c).kept.fair
