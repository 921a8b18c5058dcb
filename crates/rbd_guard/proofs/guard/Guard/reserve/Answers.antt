use Rattle.std.proofs.Common.{subst, refl}
use Rattle.rbd_guard.specs.Tickets.{AreSame, IsSoundGuard}
use Rattle.rbd_guard.specs.contracts.guard.Guard.{the_view}
use Rattle.rbd_guard.proofs.Holding.{again, sound}
use Rattle.rbd_guard.proofs.Staying.{same_held, same_tickets}
use Rattle.rbd_guard.proofs.guard.Guard.reserve.Goals as goal

pub returns-then-self-more-clause-sound : goal.returns-then-self-more-clause-sound
returns-then-self-more-clause-sound c = subst IsSoundGuard c.self.view_is (sound (the_view c.self.inside) (again _ _ c.self.invariant))

pub returns-in_err-reserve-clause-same : goal.returns-in_err-reserve-clause-same
returns-in_err-reserve-clause-same c =
    let new = the_view (record { slab = c.reserve.new.self; places = c.self.inside.places; queues = c.self.inside.queues; lists = c.self.inside.lists; drawn = c.self.inside.drawn }) in
    subst (λ g. AreSame g new) c.self.view_is (same_tickets (the_view c.self.inside) new c.reserve.ensures.places (λ t. refl) (λ k. refl) (λ k. refl) refl)

pub returns-in_err-reserve-clause-sound : goal.returns-in_err-reserve-clause-sound
returns-in_err-reserve-clause-sound c =
    sound _ (same_held (the_view c.self.inside) _ c.reserve.ensures.places (λ t. refl) (λ k. refl) (λ k. refl) refl (again _ _ c.self.invariant))

pub returns-clause-same : goal.returns-clause-same
returns-clause-same c =
    let new = the_view (record {
      slab = c.reserve.new.self;
      places = c.reserve_all.new.places;
      queues = c.reserve_all.new.queues;
      lists = c.reserve_all.new.lists;
      drawn = c.self.inside.drawn;
    }) in
    subst (λ g. AreSame g new) c.self.view_is
    (same_tickets (the_view c.self.inside) new c.reserve.ensures.places c.reserve_all.ensures.places
    c.reserve_all.ensures.queues c.reserve_all.ensures.lists refl)

pub returns-clause-sound : goal.returns-clause-sound
returns-clause-sound c =
    sound _
    (same_held (the_view c.self.inside) _ c.reserve.ensures.places c.reserve_all.ensures.places
    c.reserve_all.ensures.queues c.reserve_all.ensures.lists refl (again _ _ c.self.invariant))
