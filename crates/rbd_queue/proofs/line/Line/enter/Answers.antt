use Rattle.std.proofs.Common.{◌∙◌, ap}
use Rattle.rbd_guard.specs.Order.{is_in}
use Rattle.rbd_queue.specs.Line.{LineView, may_enter, none_past_behind, objects_of_slot, entered, changed_member}
use Rattle.rbd_queue.specs.Turns.{holders, held_by}
use Rattle.rbd_queue.proofs.Views.{Holds, members_of, after_enter}
use Rattle.rbd_queue.proofs.line.Line.enter.Goals as goal

after : (c : goal.After-enter)
    → Holds (λ slot. held_by slot c.enter.new.self) (λ object. holders object c.enter.new.self) c.self.inside.standings.items
    (changed_member c.args.slot (entered c.args.object) (members_of (λ slot. held_by slot c.self.inside.turns) c.self.inside.standings.items))
after c =
    after_enter (λ slot. held_by slot c.self.inside.turns) (λ object. holders object c.self.inside.turns) (λ slot. held_by slot c.enter.new.self) (λ object. holders object c.enter.new.self)
    c.self.inside.standings.items c.args.slot c.args.object c.enter.ensures.holders c.enter.ensures.held
    (ap (λ (l : LineView). may_enter c.args.slot l.members) c.self.view_is ∙ c.requires.member)
    (ap (λ (l : LineView). none_past_behind c.args.slot l.members) c.self.view_is ∙ c.requires.last)
    (ap (λ (l : LineView). is_in c.args.object (objects_of_slot c.args.slot l.members)) c.self.view_is ∙ c.requires.once)
    c.self.invariant.1

pub invariant_of-self : goal.invariant_of-self
invariant_of-self c = (c.self.invariant.0, (after c).kept)

pub returns-clause-members : goal.returns-clause-members
returns-clause-members c = (after c).seen ∙ ap (λ (l : LineView). changed_member c.args.slot (entered c.args.object) l.members) c.self.view_is

pub returns-clause-sound : goal.returns-clause-sound
returns-clause-sound c = (after c).kept.fair
