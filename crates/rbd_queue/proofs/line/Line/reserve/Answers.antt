use Rattle.rbd_queue.specs.Turns.{holders, held_by}
use Rattle.rbd_queue.proofs.Views.{after_reserve}
use Rattle.rbd_queue.proofs.line.Line.reserve.Goals as goal

pub invariant_of-self : goal.invariant_of-self
invariant_of-self c = (
  c.self.invariant.0,
  (after_reserve (λ slot. held_by slot c.self.inside.turns) (λ object. holders object c.self.inside.turns) (λ slot. held_by slot c.reserve.new.self) (λ object. holders object c.reserve.new.self)
      c.self.inside.standings.items c.reserve.ensures.holders c.reserve.ensures.held c.self.invariant.1).kept,
)
