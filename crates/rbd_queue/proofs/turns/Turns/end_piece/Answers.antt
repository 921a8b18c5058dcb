use Rattle.std.proofs.Common.{◌≡◌, ◌∙◌, None, cond, eqb, drop, ap, subst, sym}
use Rattle.std.specs.List.{slice_get}
use Rattle.rbd_guard.specs.Order.{without, AreApart}
use Rattle.rbd_guard.specs.Tickets.{Tickets, list}
use Rattle.rbd_queue.specs.Turns.{holders, held_by, begins_with}
use Rattle.rbd_queue.proofs.Owned.{nothing_ends, nothing_drops, ended_holders, ended_held, its_rest}
use Rattle.rbd_queue.proofs.turns.Turns.end_piece.Goals as goal

none : (c : goal.In_default) → None ≡ slice_get (list c.args.slot c.args.self.now) 0
none c =
    sym c.in_default.is
    ∙ (c.next_of.ensures.first
    ∙ (ap (λ n. slice_get (list n c.self.inside.guard) 0) c.slot.view_is ∙ ap (λ (g : Tickets). slice_get (list c.args.slot g) 0) c.self.view_is))

pub returns-in_default-clause-holders : goal.returns-in_default-clause-holders
returns-in_default-clause-holders c = λ o. nothing_ends c.args.self.now c.args.slot o (none c)

pub returns-in_default-clause-held : goal.returns-in_default-clause-held
returns-in_default-clause-held c = λ r. nothing_drops c.args.self.now c.args.slot r (none c)

pub returns-clause-holders : goal.returns-clause-holders
returns-clause-holders c =
    let found = its_rest c.self.inside.guard c.slot.inside.0 c.in-Some.ticket (sym c.in-Some.is ∙ c.next_of.ensures.first) in
    let apart = subst (λ n. AreApart (held_by n c.self.inside.guard)) (sym c.slot.view_is) (subst (λ (g : Tickets). AreApart (held_by c.args.slot g)) (sym c.self.view_is) c.requires) in
    λ o. ended_holders c.self.inside.guard c.leave.new.self c.slot.inside.0 c.in-Some.ticket found.rest c.self.invariant found.is apart
    c.leave.ensures.queue c.leave.ensures.list c.leave.ensures.object c.leave.ensures.request o
    ∙ (ap (λ n. cond (begins_with o (held_by n c.self.inside.guard)) (without n (holders o c.self.inside.guard)) (holders o c.self.inside.guard)) c.slot.view_is
    ∙ ap (λ (g : Tickets). cond (begins_with o (held_by c.args.slot g)) (without c.args.slot (holders o g)) (holders o g)) c.self.view_is)

pub returns-clause-held : goal.returns-clause-held
returns-clause-held c =
    let found = its_rest c.self.inside.guard c.slot.inside.0 c.in-Some.ticket (sym c.in-Some.is ∙ c.next_of.ensures.first) in
    let apart = subst (λ n. AreApart (held_by n c.self.inside.guard)) (sym c.slot.view_is) (subst (λ (g : Tickets). AreApart (held_by c.args.slot g)) (sym c.self.view_is) c.requires) in
    λ r. ended_held c.self.inside.guard c.leave.new.self c.slot.inside.0 c.in-Some.ticket found.rest c.self.invariant found.is apart
    c.leave.ensures.queue c.leave.ensures.list c.leave.ensures.object c.leave.ensures.request r
    ∙ (ap (λ n. cond (eqb n r) (drop 1 (held_by r c.self.inside.guard)) (held_by r c.self.inside.guard)) c.slot.view_is
    ∙ ap (λ (g : Tickets). cond (eqb c.args.slot r) (drop 1 (held_by r g)) (held_by r g)) c.self.view_is)
