use Rattle.std.proofs.Common.{[], sym, subst, ◌≡◌, true}
use Rattle.rbd_kinds.specs.declared.reply.Reply.TheVariants.{Done}
use Rattle.rbd_machine.specs.Plan.{Return}
use Rattle.rbd_lock.specs.Acquire.{acquire}
use Rattle.rbd_lock.specs.Waiting.{owned_by}
use Rattle.rbd_lock.proofs.Behind.{ends_by}
use Rattle.rbd_lock.proofs.Owned.{owned_at_last}
use Rattle.rbd_lock.proofs.Ordered.{ordered_acquire, ordered_walk}
use Rattle.rbd_lock.proofs.way_laws.ways_end_with_the_lock.Goals as goal

pub returns-clause-ends : goal.returns-clause-ends
returns-clause-ends c = λ site image watched feds steps r walk.
    ends_by site image r steps (ordered_walk site image feds [] (acquire site image watched (Return Done)) steps (Return r) (ordered_acquire site image watched) walk).last_is

pub returns-clause-owned : goal.returns-clause-owned
returns-clause-owned c = λ site image watched owned feds steps walk.
    let ends = ends_by site image Done steps (ordered_walk site image feds [] (acquire site image watched (Return Done)) steps (Return Done) (ordered_acquire site image watched) walk).last_is in
    subst (λ s. owned_by owned s ≡ true) (sym ends.are) (owned_at_last owned ends.before site image)
