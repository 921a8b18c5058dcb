use Rattle.std.proofs.Common.{[]}
use Rattle.rbd_kinds.specs.declared.reply.Reply.TheVariants.{Done}
use Rattle.rbd_machine.specs.Plan.{Return}
use Rattle.rbd_lock.specs.Acquire.{acquire}
use Rattle.rbd_lock.proofs.Behind.{ends_with, ends_with_look, ends_with_watching, step_in_order}
use Rattle.rbd_lock.proofs.Listed.{listed_is_asked}
use Rattle.rbd_lock.proofs.Ordered.{ordered_acquire, ordered_walk}
use Rattle.rbd_lock.proofs.way_laws.owners_are_fenced_before_they_lose_the_lock.Goals as goal

pub returns-clause-broken : goal.returns-clause-broken
returns-clause-broken c = λ site image watched feds last before after owner a walk.
    let are = (ordered_walk site image feds [] (acquire site image watched (Return Done)) _ last (ordered_acquire site image watched) walk).steps_are in
    ends_with _ before (step_in_order site image [] before _ after are).1

pub returns-clause-fenced : goal.returns-clause-fenced
returns-clause-fenced c = λ site image watched feds last before after owner a walk.
    let are = (ordered_walk site image feds [] (acquire site image watched (Return Done)) _ last (ordered_acquire site image watched) walk).steps_are in
    ends_with_look site image owner _ before (step_in_order site image [] before _ after are)

pub returns-clause-asked : goal.returns-clause-asked
returns-clause-asked c = λ site image watched feds last before after a walk.
    let are = (ordered_walk site image feds [] (acquire site image watched (Return Done)) _ last (ordered_acquire site image watched) walk).steps_are in
    ends_with_watching site image before (step_in_order site image [] before _ after are).1

pub returns-clause-watching : goal.returns-clause-watching
returns-clause-watching c = λ site image watched feds last before after owner watchers s listed walk.
    let are = (ordered_walk site image feds [] (acquire site image watched (Return Done)) _ last (ordered_acquire site image watched) walk).steps_are in
    listed_is_asked site image owner watchers before after s listed are
