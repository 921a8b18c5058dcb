use Rattle.std.proofs.Common.{◌<◌, ◌∙◌, ◌++◌, ◌∷◌, [], cond, eqb, ap, subst, sym}
use Rattle.rbd_guard.specs.Tickets.{Tickets}
use Rattle.rbd_queue.specs.Turns.{holders, held_by}
use Rattle.rbd_queue.proofs.Owned.{some_ticket, in_holders, in_held}
use Rattle.rbd_queue.proofs.turns.Turns.enter.Goals as goal

pub returns-clause-holders : goal.returns-clause-holders
returns-clause-holders c =
    let ok = c.enter-ticket.ensures.room (subst (λ (g : Tickets). 0 < g.reserved) (sym c.self.view_is) c.requires) in
    let t = some_ticket c.slot.inside.0 c.args.object c.self.inside.guard c.enter-ticket.new.self c.enter-ticket.result ok
    c.enter-ticket.ensures.queue c.enter-ticket.ensures.list c.enter-ticket.ensures.object c.enter-ticket.ensures.request c.enter-ticket.ensures.fresh in
    λ o. in_holders c.slot.inside.0 c.args.object c.self.inside.guard c.enter-ticket.new.self t.0 c.self.invariant t.1 o
    ∙ (ap (λ n. cond (eqb c.args.object o) (holders o c.self.inside.guard ++ n ∷ []) (holders o c.self.inside.guard)) c.slot.view_is
    ∙ ap (λ (g : Tickets). cond (eqb c.args.object o) (holders o g ++ c.args.slot ∷ []) (holders o g)) c.self.view_is)

pub returns-clause-held : goal.returns-clause-held
returns-clause-held c =
    let ok = c.enter-ticket.ensures.room (subst (λ (g : Tickets). 0 < g.reserved) (sym c.self.view_is) c.requires) in
    let t = some_ticket c.slot.inside.0 c.args.object c.self.inside.guard c.enter-ticket.new.self c.enter-ticket.result ok
    c.enter-ticket.ensures.queue c.enter-ticket.ensures.list c.enter-ticket.ensures.object c.enter-ticket.ensures.request c.enter-ticket.ensures.fresh in
    λ r. in_held c.slot.inside.0 c.args.object c.self.inside.guard c.enter-ticket.new.self t.0 c.self.invariant t.1 r
    ∙ (ap (λ n. cond (eqb n r) (held_by r c.self.inside.guard ++ c.args.object ∷ []) (held_by r c.self.inside.guard)) c.slot.view_is
    ∙ ap (λ (g : Tickets). cond (eqb c.args.slot r) (held_by r g ++ c.args.object ∷ []) (held_by r g)) c.self.view_is)
