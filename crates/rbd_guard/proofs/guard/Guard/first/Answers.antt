use Rattle.std.proofs.Common.{◌≡◌, Some, ap, subst, ◌∙◌}
use Rattle.std.specs.List.{slice_get}
use Rattle.std.specs.Option.{IfSome}
use Rattle.rbd_guard.specs.declared.link.Ends.{Ends}
use Rattle.rbd_guard.specs.Slab.{number_at, number_or_none}
use Rattle.rbd_guard.specs.Tickets.{Tickets, queue, ticket_object, IsSoundGuard}
use Rattle.rbd_guard.specs.contracts.guard.Guard.{the_view}
use Rattle.rbd_guard.proofs.Holding.{again, sound, queue_first, object_found}
use Rattle.rbd_guard.proofs.guard.Guard.first.Goals as goal

pub returns-clause-first : goal.returns-clause-first
returns-clause-first c =
    c.ticket_at.ensures
    ∙ ap (λ (e : Ends). number_or_none (number_at c.self.inside.slab.places) e.first) c.ends_of.ensures
    ∙ queue_first (the_view c.self.inside) (again _ _ c.self.invariant) c.args.object
    ∙ ap (λ g. slice_get (queue c.args.object g) 0) c.self.view_is

pub returns-clause-object : goal.returns-clause-object
returns-clause-object c =
    subst (λ (g : Tickets). IfSome c.ticket_at.result (λ ticket. ticket_object ticket g ≡ Some c.args.object)) c.self.view_is
    (object_found (the_view c.self.inside) (again _ _ c.self.invariant) c.args.object c.ticket_at.result
    (c.ticket_at.ensures
    ∙ ap (λ (e : Ends). number_or_none (number_at c.self.inside.slab.places) e.first) c.ends_of.ensures
    ∙ queue_first (the_view c.self.inside) (again _ _ c.self.invariant) c.args.object))

pub returns-clause-sound : goal.returns-clause-sound
returns-clause-sound c = subst IsSoundGuard c.self.view_is (sound (the_view c.self.inside) (again _ _ c.self.invariant))
