use Rattle.std.proofs.Common.{ℕ, None, cond, nat_eq, refl, ap, ◌∙◌}
use Rattle.std.specs.Option.{is_some, option_map}
use Rattle.rbd_guard.specs.declared.link.SlabPlace.{SlabPlace}
use Rattle.rbd_guard.specs.Order.{without}
use Rattle.rbd_guard.specs.Slab.{queue_link, list_link}
use Rattle.rbd_guard.specs.Tickets.{queue, list, ticket_object, ticket_request, ends_at}
use Rattle.rbd_guard.specs.contracts.guard.Guard.{the_view}
use Rattle.rbd_guard.proofs.Removed.{some_stand}
use Rattle.rbd_guard.proofs.Holding.{again, sound, has_place, place_used}
use Rattle.rbd_guard.proofs.Freed.{IsOut, left_held, left_queue, left_list, left_object, left_request}
use Rattle.rbd_guard.proofs.guard.Guard.leave.Goals as goal

pub take_place-at-requires : goal.take_place-at-requires
take_place-at-requires c =
    has_place (the_view c.self.inside) (again _ _ c.self.invariant) c.ticket.inside.number
    (ap (λ g. is_some (ticket_object c.ticket.inside.number g)) c.self.view_is
    ∙ ap (λ t. is_some (ticket_object t c.args.self.now)) c.ticket.view_is ∙ c.requires)

pub leave-left-requires : goal.leave-left-requires
leave-left-requires c =
    place_used (the_view c.self.inside) (again _ _ c.self.invariant) c.ticket.inside.number c.take_place-at.result c.take_place-at.ensures.was

pub leave_queue-requires : goal.leave_queue-requires
leave_queue-requires c =
    some_stand (queue_link c.self.inside.slab.places) (ends_at c.self.inside.queues.entries) c.take_place-at.result c.leave-left.result.queue
    c.self.invariant.queues (ap (λ o. option_map (λ (p : SlabPlace). p.queue) o) c.leave-left.ensures.was)

pub leave_list-requires : goal.leave_list-requires
leave_list-requires c =
    some_stand (list_link c.self.inside.slab.places) (ends_at c.self.inside.lists.entries) c.take_place-at.result c.leave-left.result.list
    c.self.invariant.lists (ap (λ o. option_map (λ (p : SlabPlace). p.list) o) c.leave-left.ensures.was)

is_out : (c : goal.After-leave_list) (room : ℕ)
    → IsOut (the_view c.self.inside)
    (record {
      slots = c.leave_list.new.slab.places;
      places = c.take_place-at.new.places.entries;
      queues = c.leave_queue.new.queues.entries;
      lists = c.leave_list.new.lists.entries;
      drawn = c.self.inside.drawn;
      reserved = room;
    })
    c.leave-left.new.self.places c.leave_queue.new.slab.places c.take_place-at.result c.ticket.inside.number c.leave-left.result
is_out c room =
    record {
      here = c.take_place-at.ensures.was;
      stood = c.leave-left.ensures.was;
      put = c.leave-left.ensures.places;
      queue = λ p. c.leave_list.ensures.queue p ∙ c.leave_queue.ensures.queue p;
      list = c.leave_list.ensures.list;
      kept = c.leave_queue.ensures.list;
      number = λ p. c.leave_list.ensures.number p ∙ c.leave_queue.ensures.number p;
      queues = c.leave_queue.ensures.ends;
      lists = c.leave_list.ensures.ends;
      used_queues = c.leave_queue.ensures.used;
      used_lists = c.leave_list.ensures.used;
      places = c.take_place-at.ensures.places;
      drawn = refl;
    }

pub invariant_of-self : goal.invariant_of-self
invariant_of-self c = left_held _ _ _ _ _ _ _ (again _ _ c.self.invariant) (is_out c 0)

pub returns-clause-queue : goal.returns-clause-queue
returns-clause-queue c = λ o.
    left_queue _ _ _ _ _ _ _ (again _ _ c.self.invariant) (is_out c _) o
    ∙ ap (λ g. without c.ticket.inside.number (queue o g)) c.self.view_is
    ∙ ap (λ n. without n (queue o c.args.self.now)) c.ticket.view_is

pub returns-clause-list : goal.returns-clause-list
returns-clause-list c = λ r.
    left_list _ _ _ _ _ _ _ (again _ _ c.self.invariant) (is_out c _) r
    ∙ ap (λ g. without c.ticket.inside.number (list r g)) c.self.view_is
    ∙ ap (λ n. without n (list r c.args.self.now)) c.ticket.view_is

pub returns-clause-object : goal.returns-clause-object
returns-clause-object c = λ t.
    left_object _ _ _ _ _ _ _ (again _ _ c.self.invariant) (is_out c _) t
    ∙ ap (λ g. cond (nat_eq c.ticket.inside.number t) None (ticket_object t g)) c.self.view_is
    ∙ ap (λ n. cond (nat_eq n t) None (ticket_object t c.args.self.now)) c.ticket.view_is

pub returns-clause-request : goal.returns-clause-request
returns-clause-request c = λ t.
    left_request _ _ _ _ _ _ _ (again _ _ c.self.invariant) (is_out c _) t
    ∙ ap (λ g. cond (nat_eq c.ticket.inside.number t) None (ticket_request t g)) c.self.view_is
    ∙ ap (λ n. cond (nat_eq n t) None (ticket_request t c.args.self.now)) c.ticket.view_is

pub returns-clause-sound : goal.returns-clause-sound
returns-clause-sound c = sound _ (left_held _ _ _ _ _ _ _ (again _ _ c.self.invariant) (is_out c _))
