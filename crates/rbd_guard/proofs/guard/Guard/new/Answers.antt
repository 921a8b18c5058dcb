use Rattle.std.proofs.Common.{refl}
use Rattle.rbd_guard.specs.contracts.guard.Guard.{the_view}
use Rattle.rbd_guard.proofs.Holding.{sound}
use Rattle.rbd_guard.proofs.Staying.{no_queue, no_list, no_object, no_request, none_held}
use Rattle.rbd_guard.proofs.guard.Guard.new.Goals as goal

pub returns-clause-queue : goal.returns-clause-queue
returns-clause-queue c = no_queue (the_view (record { slab = c.new.result; places = c.new-2.result; queues = c.new-3.result; lists = c.new-4.result; drawn = 0 })) c.new-3.ensures.empty

pub returns-clause-list : goal.returns-clause-list
returns-clause-list c = no_list (the_view (record { slab = c.new.result; places = c.new-2.result; queues = c.new-3.result; lists = c.new-4.result; drawn = 0 })) c.new-4.ensures.empty

pub returns-clause-object : goal.returns-clause-object
returns-clause-object c = no_object (the_view (record { slab = c.new.result; places = c.new-2.result; queues = c.new-3.result; lists = c.new-4.result; drawn = 0 })) c.new-2.ensures.empty

pub returns-clause-request : goal.returns-clause-request
returns-clause-request c = no_request (the_view (record { slab = c.new.result; places = c.new-2.result; queues = c.new-3.result; lists = c.new-4.result; drawn = 0 })) c.new-2.ensures.empty

pub returns-clause-sound : goal.returns-clause-sound
returns-clause-sound c =
    sound _
    (none_held (the_view (record { slab = c.new.result; places = c.new-2.result; queues = c.new-3.result; lists = c.new-4.result; drawn = 0 }))
    c.new.ensures c.new-2.ensures.empty c.new-3.ensures.empty c.new-4.ensures.empty refl)
