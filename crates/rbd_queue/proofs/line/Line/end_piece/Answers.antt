use Rattle.std.proofs.Common.{◌∙◌, ap}
use Rattle.rbd_queue.specs.Line.{LineView, next_piece, changed_member}
use Rattle.rbd_queue.specs.Turns.{holders, held_by}
use Rattle.rbd_queue.proofs.Views.{Holds, members_of, once_held, after_piece}
use Rattle.rbd_queue.proofs.line.Line.end_piece.Goals as goal

pub end_piece-requires : goal.end_piece-requires
end_piece-requires c =
    once_held (λ slot. held_by slot c.self.inside.turns) (λ object. holders object c.self.inside.turns) c.self.inside.standings.items c.args.slot c.self.invariant.1

after : (c : goal.After-end_piece)
    → Holds (λ slot. held_by slot c.end_piece.new.self) (λ object. holders object c.end_piece.new.self) c.self.inside.standings.items
    (changed_member c.args.slot next_piece (members_of (λ slot. held_by slot c.self.inside.turns) c.self.inside.standings.items))
after c =
    after_piece (λ slot. held_by slot c.self.inside.turns) (λ object. holders object c.self.inside.turns) (λ slot. held_by slot c.end_piece.new.self) (λ object. holders object c.end_piece.new.self)
    c.self.inside.standings.items c.args.slot c.end_piece.ensures.holders c.end_piece.ensures.held c.self.invariant.1

pub invariant_of-self : goal.invariant_of-self
invariant_of-self c = (c.self.invariant.0, (after c).kept)

pub returns-clause-members : goal.returns-clause-members
returns-clause-members c = (after c).seen ∙ ap (λ (l : LineView). changed_member c.args.slot next_piece l.members) c.self.view_is

pub returns-clause-sound : goal.returns-clause-sound
returns-clause-sound c = (after c).kept.fair
