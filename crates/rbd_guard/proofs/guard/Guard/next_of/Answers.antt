use Rattle.std.proofs.Common.{◌≡◌, Some, ap, subst, ◌∙◌}
use Rattle.std.specs.List.{slice_get}
use Rattle.std.specs.Option.{IfSome}
use Rattle.rbd_guard.specs.declared.link.Ends.{Ends}
use Rattle.rbd_guard.specs.Slab.{number_at, number_or_none}
use Rattle.rbd_guard.specs.Tickets.{Tickets, list, ticket_request, IsSoundGuard}
use Rattle.rbd_guard.specs.contracts.guard.Guard.{the_view}
use Rattle.rbd_guard.proofs.Holding.{again, sound, list_first, request_found}
use Rattle.rbd_guard.proofs.guard.Guard.next_of.Goals as goal

pub returns-clause-first : goal.returns-clause-first
returns-clause-first c =
    c.ticket_at.ensures
    ∙ ap (λ (e : Ends). number_or_none (number_at c.self.inside.slab.places) e.first) c.ends_of.ensures
    ∙ list_first (the_view c.self.inside) (again _ _ c.self.invariant) c.args.request
    ∙ ap (λ g. slice_get (list c.args.request g) 0) c.self.view_is

pub returns-clause-request : goal.returns-clause-request
returns-clause-request c =
    subst (λ (g : Tickets). IfSome c.ticket_at.result (λ ticket. ticket_request ticket g ≡ Some c.args.request)) c.self.view_is
    (request_found (the_view c.self.inside) (again _ _ c.self.invariant) c.args.request c.ticket_at.result
    (c.ticket_at.ensures
    ∙ ap (λ (e : Ends). number_or_none (number_at c.self.inside.slab.places) e.first) c.ends_of.ensures
    ∙ list_first (the_view c.self.inside) (again _ _ c.self.invariant) c.args.request))

pub returns-clause-sound : goal.returns-clause-sound
returns-clause-sound c = subst IsSoundGuard c.self.view_is (sound (the_view c.self.inside) (again _ _ c.self.invariant))
