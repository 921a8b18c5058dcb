use Rattle.std.proofs.Common.{◌∙◌, ◌≤◌, ap, sym, subst}
use Rattle.rbd_queue.specs.Line.{LineView, held, changed_member}
use Rattle.rbd_queue.specs.Turns.{holders, held_by}
use Rattle.rbd_queue.proofs.Views.{Holds, members_of, after_hold}
use Rattle.rbd_queue.proofs.line.Line.hold.Goals as goal

after : (c : goal.After-hold_at)
    → Holds (λ slot. held_by slot c.self.inside.turns) (λ object. holders object c.self.inside.turns) c.hold_at.new.members.items
    (changed_member c.args.slot held (members_of (λ slot. held_by slot c.self.inside.turns) c.self.inside.standings.items))
after c =
    subst
    (λ items. Holds (λ slot. held_by slot c.self.inside.turns) (λ object. holders object c.self.inside.turns) items
    (changed_member c.args.slot held (members_of (λ slot. held_by slot c.self.inside.turns) c.self.inside.standings.items)))
    (sym c.hold_at.ensures.members)
    (after_hold (λ slot. held_by slot c.self.inside.turns) (λ object. holders object c.self.inside.turns) c.self.inside.standings.items c.args.slot c.self.invariant.1)

pub invariant_of-self : goal.invariant_of-self
invariant_of-self c = (subst (λ n. 64 ≤ n) (sym c.hold_at.ensures.room) c.self.invariant.0, (after c).kept)

pub returns-clause-members : goal.returns-clause-members
returns-clause-members c = (after c).seen ∙ ap (λ (l : LineView). changed_member c.args.slot held l.members) c.self.view_is

pub returns-clause-sound : goal.returns-clause-sound
returns-clause-sound c = (after c).kept.fair
