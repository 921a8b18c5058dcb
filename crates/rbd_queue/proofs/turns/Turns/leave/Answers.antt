use Rattle.std.proofs.Common.{◌∙◌, [], cond, eqb, ap}
use Rattle.rbd_guard.specs.Order.{without}
use Rattle.rbd_guard.specs.Tickets.{Tickets}
use Rattle.rbd_queue.specs.Turns.{holders, held_by}
use Rattle.rbd_queue.proofs.Owned.{left_holders, left_held}
use Rattle.rbd_queue.proofs.turns.Turns.leave.Goals as goal

pub returns-clause-holders : goal.returns-clause-holders
returns-clause-holders c = λ o.
    left_holders c.self.inside.guard c.leave_all.new.self c.slot.inside.0 c.self.invariant c.leave_all.ensures.queue c.leave_all.ensures.list
    c.leave_all.ensures.object c.leave_all.ensures.request o
    ∙ (ap (λ n. without n (holders o c.self.inside.guard)) c.slot.view_is ∙ ap (λ (g : Tickets). without c.args.slot (holders o g)) c.self.view_is)

pub returns-clause-held : goal.returns-clause-held
returns-clause-held c = λ r.
    left_held c.self.inside.guard c.leave_all.new.self c.slot.inside.0 c.self.invariant c.leave_all.ensures.queue c.leave_all.ensures.list
    c.leave_all.ensures.object c.leave_all.ensures.request r
    ∙ (ap (λ n. cond (eqb n r) [] (held_by r c.self.inside.guard)) c.slot.view_is ∙ ap (λ (g : Tickets). cond (eqb c.args.slot r) [] (held_by r g)) c.self.view_is)
