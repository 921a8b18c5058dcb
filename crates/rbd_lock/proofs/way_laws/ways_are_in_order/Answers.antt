use Rattle.std.proofs.Common.{[]}
use Rattle.rbd_kinds.specs.declared.reply.Reply.TheVariants.{Done}
use Rattle.rbd_machine.specs.Plan.{Return}
use Rattle.rbd_lock.specs.Acquire.{acquire}
use Rattle.rbd_lock.proofs.Ordered.{ordered_acquire, ordered_walk}
use Rattle.rbd_lock.proofs.way_laws.ways_are_in_order.Goals as goal

pub returns : goal.returns
returns c = λ site image watched feds steps last walk.
    (ordered_walk site image feds [] (acquire site image watched (Return Done)) steps last (ordered_acquire site image watched) walk).steps_are
