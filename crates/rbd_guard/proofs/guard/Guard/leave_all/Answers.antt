use Rattle.std.proofs.Common.{length, ap, sym, ◌∙◌}
use Rattle.rbd_guard.specs.declared.link.Ends.{Ends}
use Rattle.rbd_guard.specs.Tickets.{list}
use Rattle.rbd_guard.specs.contracts.guard.Guard.{the_view}
use Rattle.rbd_guard.proofs.Holding.{again, list_count}
use Rattle.rbd_guard.proofs.Leaving.{Begins, begins, is_empty, IsLeft, rest_shorter, one_more_left, HaveLeft, have_left}
use Rattle.rbd_guard.proofs.guard.Guard.leave_all.Goals as goal

left : (c : goal.After-leave) → IsLeft c.in-Some.ticket c.loop-ticket.self c.leave.new.self
left c =
    record {
      queue = c.leave.ensures.queue;
      list = c.leave.ensures.list;
      object = c.leave.ensures.object;
      request = c.leave.ensures.request;
      drawn = c.leave.ensures.drawn;
      reserved = c.leave.ensures.reserved;
    }

head : (c : goal.After-leave) → Begins c.in-Some.ticket (list c.args.request c.loop-ticket.self)
head c = begins c.in-Some.ticket (list c.args.request c.loop-ticket.self) (sym c.in-Some.is ∙ c.next_of.ensures.first)

pub loop-ticket-smaller : goal.loop-ticket-smaller
loop-ticket-smaller c = rest_shorter c.args.request c.in-Some.ticket c.loop-ticket.self c.leave.new.self c.next_of.ensures.sound (left c) (head c)

pub loop-ticket-preserved : goal.loop-ticket-preserved
loop-ticket-preserved c =
    one_more_left c.args.request c.in-Some.ticket c.loop-ticket.self c.leave.new.self c.next_of.ensures.sound (left c) (head c) c.args.self.now c.loop-ticket.invariant

gone : (c : goal.In_default) → HaveLeft c.args.request c.args.self.now c.loop-ticket.self
gone c =
    have_left c.args.request c.args.self.now c.loop-ticket.self c.loop-ticket.invariant
    (is_empty (list c.args.request c.loop-ticket.self) (sym c.in_default.is ∙ c.next_of.ensures.first))

pub returns-clause-queue : goal.returns-clause-queue
returns-clause-queue c = (gone c).queues

pub returns-clause-list : goal.returns-clause-list
returns-clause-list c = (gone c).lists

pub returns-clause-object : goal.returns-clause-object
returns-clause-object c = (gone c).objects

pub returns-clause-request : goal.returns-clause-request
returns-clause-request c = (gone c).requests

pub returns-clause-count : goal.returns-clause-count
returns-clause-count c =
    ap (λ (e : Ends). e.count) c.ends_of-count.ensures
    ∙ list_count (the_view c.self.inside) (again _ _ c.self.invariant) c.args.request
    ∙ ap (λ g. length (list c.args.request g)) c.self.view_is
