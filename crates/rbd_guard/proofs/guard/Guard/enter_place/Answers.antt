use Rattle.std.proofs.Common.{ℕ, ◌+◌, ◌-◌, ◌<◌, ◌^◌, ◌++◌, [], ◌∷◌, Some, cond, nat_eq, refl, sym, ap, ◌∙◌, arith}
use Rattle.rbd_guard.specs.Slab.{used_at}
use Rattle.rbd_guard.specs.Tickets.{Tickets, queue, list, ticket_object, ticket_request}
use Rattle.rbd_guard.specs.contracts.guard.Guard.{the_view}
use Rattle.rbd_guard.proofs.Holding.{again, sound}
use Rattle.rbd_guard.proofs.Taken.{IsEntered, entered_held, entered_queue, entered_list, entered_object, entered_request, no_object}
use Rattle.rbd_guard.proofs.guard.Guard.enter_place.Goals as goal

entered : (c : goal.After-self-1) (room : ℕ)
    → IsEntered (the_view c.self.inside)
    (record {
      slots = c.enter_list.new.slab.places;
      places = c.add_place.new.places.entries;
      queues = c.enter_queue.new.queues.entries;
      lists = c.enter_list.new.lists.entries;
      drawn = c.self.inside.drawn + 1;
      reserved = room;
    })
    c.enter-at.new.self.places c.enter_queue.new.slab.places c.enter-at.result c.args.object c.args.request
entered c room =
    record {
      free = c.enter-at.ensures.free;
      put = λ p. c.enter-at.ensures.places p ∙ ap (λ t. cond (nat_eq c.enter-at.result p) (Some t) (used_at c.self.inside.slab.places p)) c.entering.ensures;
      queue = λ p. c.enter_list.ensures.queue p ∙ c.enter_queue.ensures.queue p;
      list = c.enter_list.ensures.list;
      kept = c.enter_queue.ensures.list;
      number = λ p. c.enter_list.ensures.number p ∙ c.enter_queue.ensures.number p;
      queues = c.enter_queue.ensures.ends;
      lists = c.enter_list.ensures.ends;
      used_queues = c.enter_queue.ensures.used;
      used_lists = c.enter_list.ensures.used;
      places = c.add_place.ensures.places;
      drawn = refl;
      below = below;
    }
  where
    below : c.self.inside.drawn < 2 ^ 64 - 1
    below =
        let is = ap (λ (g : Tickets). g.reserved) c.self.view_is in
        let some = c.requires in
        omega (arith, is, some)

pub invariant_of-self : goal.invariant_of-self
invariant_of-self c = entered_held _ _ _ _ _ _ _ (again _ _ c.self.invariant) (entered c 0)

pub returns-clause-queue : goal.returns-clause-queue
returns-clause-queue c = λ o.
    entered_queue _ _ _ _ _ _ _ (again _ _ c.self.invariant) (entered c _) o
    ∙ ap (λ g. cond (nat_eq c.args.object o) (queue o g ++ c.self.inside.drawn ∷ []) (queue o g)) c.self.view_is

pub returns-clause-list : goal.returns-clause-list
returns-clause-list c = λ r.
    entered_list _ _ _ _ _ _ _ (again _ _ c.self.invariant) (entered c _) r
    ∙ ap (λ g. cond (nat_eq c.args.request r) (list r g ++ c.self.inside.drawn ∷ []) (list r g)) c.self.view_is

pub returns-clause-object : goal.returns-clause-object
returns-clause-object c = λ t.
    entered_object _ _ _ _ _ _ _ (again _ _ c.self.invariant) (entered c _) t
    ∙ ap (λ g. cond (nat_eq c.self.inside.drawn t) (Some c.args.object) (ticket_object t g)) c.self.view_is

pub returns-clause-request : goal.returns-clause-request
returns-clause-request c = λ t.
    entered_request _ _ _ _ _ _ _ (again _ _ c.self.invariant) (entered c _) t
    ∙ ap (λ g. cond (nat_eq c.self.inside.drawn t) (Some c.args.request) (ticket_request t g)) c.self.view_is

pub returns-clause-fresh : goal.returns-clause-fresh
returns-clause-fresh c = sym (ap (ticket_object c.self.inside.drawn) c.self.view_is) ∙ no_object (the_view c.self.inside) (again _ _ c.self.invariant)

pub returns-clause-sound : goal.returns-clause-sound
returns-clause-sound c = sound _ (entered_held _ _ _ _ _ _ _ (again _ _ c.self.invariant) (entered c _))
