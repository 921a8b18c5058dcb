use Rattle.std.proofs.Common.{◌∙◌, ap, subst, sym}
use Rattle.std.specs.Prelude.{◌&&◌}
use Rattle.std.specs.List.{slice_get}
use Rattle.rbd_guard.specs.Order.{AreApart}
use Rattle.rbd_guard.specs.Tickets.{Tickets, list, queue}
use Rattle.rbd_queue.specs.Turns.{holders, held_by, begins_with}
use Rattle.rbd_queue.proofs.Owned.{no_next, no_first, turn_is}
use Rattle.rbd_queue.proofs.turns.Turns.has_turn.Goals as goal

pub returns-in_default : goal.returns-in_default
returns-in_default c =
    no_next c.args.self.now c.args.slot c.args.object
    (sym c.in_default.is
    ∙ (c.next_of.ensures.first
    ∙ (ap (λ n. slice_get (list n c.self.inside.guard) 0) c.slot.view_is ∙ ap (λ (g : Tickets). slice_get (list c.args.slot g) 0) c.self.view_is)))

pub returns-in_default-first : goal.returns-in_default-first
returns-in_default-first c =
    no_first c.args.self.now c.args.slot c.args.object
    (sym c.in_default-first.is ∙ (c.first.ensures.first ∙ ap (λ (g : Tickets). slice_get (queue c.args.object g) 0) c.self.view_is))

pub returns : goal.returns
returns c =
    let apart = subst (λ n. AreApart (held_by n c.self.inside.guard)) (sym c.slot.view_is) (subst (λ (g : Tickets). AreApart (held_by c.args.slot g)) (sym c.self.view_is) c.requires) in
    c.eq.ensures
    ∙ (turn_is c.self.inside.guard c.slot.inside.0 c.args.object c.in-Some-first.first c.in-Some.next c.self.invariant apart
    (sym c.in-Some.is ∙ c.next_of.ensures.first) (sym c.in-Some-first.is ∙ c.first.ensures.first)
    ∙ (ap (λ n. begins_with c.args.object (held_by n c.self.inside.guard) && begins_with n (holders c.args.object c.self.inside.guard)) c.slot.view_is
    ∙ ap (λ (g : Tickets). begins_with c.args.object (held_by c.args.slot g) && begins_with c.args.slot (holders c.args.object g)) c.self.view_is))
