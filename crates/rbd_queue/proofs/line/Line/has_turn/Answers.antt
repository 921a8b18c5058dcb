use Rattle.std.proofs.Common.{◌∙◌, ap}
use Rattle.std.specs.Prelude.{◌&&◌}
use Rattle.rbd_queue.specs.Line.{LineView, comes_next, has_turn}
use Rattle.rbd_queue.specs.Turns.{holders, held_by}
use Rattle.rbd_queue.proofs.Views.{once_held, turn_seen}
use Rattle.rbd_queue.proofs.line.Line.has_turn.Goals as goal

pub has_turn-requires : goal.has_turn-requires
has_turn-requires c =
    once_held (λ slot. held_by slot c.self.inside.turns) (λ object. holders object c.self.inside.turns) c.self.inside.standings.items c.args.slot c.self.invariant.1

pub returns-clause-turn : goal.returns-clause-turn
returns-clause-turn c =
    c.has_turn.ensures
    ∙ (turn_seen (λ slot. held_by slot c.self.inside.turns) (λ object. holders object c.self.inside.turns) c.self.inside.standings.items c.args.slot c.args.object c.self.invariant.1
    ∙ ap (λ (l : LineView). comes_next c.args.slot c.args.object l.members && has_turn c.args.slot c.args.object l.members) c.self.view_is)
