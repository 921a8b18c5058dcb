-- No command takes a lock by an operation of its own: that is done on a way to it. So whatever a
-- slot wants takes one only behind a watch.
use Rattle.std.proofs.Common.{◌≡◌, ℕ, List, Some, refl, subst}
use Rattle.std.proofs.lemmas.Option.{none-some, same_Some}
use Rattle.rbd_client.specs.declared.actor.Actor.{Actor}
use Rattle.rbd_client.specs.declared.actor.Actor.TheVariants as actor
use Rattle.rbd_client.specs.Actor.{actor_at, op_by, op_wanted}
use Rattle.rbd_client.specs.Client.{ClientView}
use Rattle.rbd_commands.specs.declared.command.Command.{Command}
use Rattle.rbd_kinds.specs.declared.answer.Answer.{Answer}
use Rattle.rbd_kinds.specs.declared.id.Instance.{Instance}
use Rattle.rbd_kinds.specs.declared.id.SiteId.{SiteId}
use Rattle.rbd_kinds.specs.declared.machine.Fed.{Fed}
use Rattle.rbd_kinds.specs.declared.operation.Op.{Op}
use Rattle.rbd_knowledge.proofs.Wanting.{Wants, wants}
use Rattle.rbd_machine.specs.Path.{Answered, IsWalk}
use Rattle.rbd_machine.specs.Plan.{Plan, Ask, Standing}
use Rattle.rbd_machine.specs.declared.reason.Reason.{Reason}
use Rattle.rbd_machine.specs.declared.seat.Seat.{Seat}
use Rattle.rbd_lock.specs.Release.{release_op, release_op_at}
use Rattle.rbd_lock.specs.declared.release.Release.{Release}
use Rattle.rbd_lock.specs.declared.release.Stage.{Stage}
use Rattle.rbd_lock.specs.declared.release.Stage.TheVariants as stage
use Rattle.rbd_catalog.specs.Follows.{TakesNoLock}
use Rattle.rbd_catalog.specs.Profile.{profile}
use Rattle.rbd_catalog.proofs.Consequences.{comes_to}
use Rattle.rbd_catalog.proofs.FollowsAll.{command_follows}
use Rattle.rbd_catalog.specs.Plans.{IsPlanFor}
use Rattle.rbd_slots.specs.Session.{held_in}
use Rattle.rbd_world.specs.Run.{Happening}
use Rattle.rbd_world.specs.Sound.{IsHeldRightly, IsUnderWay}
use Rattle.rbd_world.specs.Watched.{CountsItsWatches, TakesBehindWatch}
use Rattle.rbd_world.proofs.Watching.{takes_behind_watch, way_watched}

-- ---- a request

-- what a walk of a command asks for takes no lock
pub walks_take_none : (seat : Seat) (c : Command) (start : Standing) (feds : List Fed) (steps : List Answered) (s : SiteId) (why : Reason) (o : Op) (next : Answer → Plan) → IsPlanFor seat c start
    → IsWalk start.labels start.plan feds steps (Ask s why o next) → TakesNoLock o
walks_take_none seat c start feds steps s why o next plan walk =
    (comes_to (profile c) start (command_follows seat c start plan) feds steps (Ask s why o next) walk).is.0.own

pub none_behind_watch : (who : Instance) (s : SiteId) (o : Op) (run : List Happening) → TakesNoLock o → TakesBehindWatch who s o run
none_behind_watch who s o run none image is = absurd (subst TakesNoLock is none)

-- a release takes none
pub release_takes_none : (x : Release) → TakesNoLock (release_op x)
release_takes_none x = by x.stage
  where
    by : (at : Stage) → TakesNoLock (release_op_at at x.image)
    by stage.Dropping = tt
    by stage.Telling = tt

-- ---- what a slot wants

module _ {R : Type 0} (stands : R → Standing) (seat : Seat) (slot : ℕ) (c : ClientView R) (who : Instance) (run : List Happening) (watches : CountsItsWatches who run c)
    (held : IsHeldRightly stands seat who run (held_in slot c.session.slots)) where
  request_takes_none : (s : SiteId) (o : Op) → Wants stands slot c.session.lines s o (held_in slot c.session.slots) → TakesNoLock o
  request_takes_none s o w =
      let way : IsUnderWay stands seat who run w.request = subst (IsHeldRightly stands seat who run) w.is held in
      walks_take_none seat way.begun.asked.command way.start way.feds _ s w.why o w.next way.plan (subst (IsWalk way.start.labels way.start.plan way.feds _) w.plan way.walk)

  pub wanted_behind_watch : (s : SiteId) (o : Op) → op_wanted stands slot c ≡ Some (s, o) → TakesBehindWatch who s o run
  wanted_behind_watch s o is = by (actor_at stands slot c) refl is
    where
      by : (m : Actor) → actor_at stands slot c ≡ m → op_by stands slot c.session m ≡ Some (s, o) → TakesBehindWatch who s o run
      by actor.Nobody acts is = absurd (none-some (s, o) is)
      by actor.Request acts is = none_behind_watch who s o run (request_takes_none s o (wants stands slot c.session.lines s o (held_in slot c.session.slots) is))
      by (actor.Way a) acts is =
          subst (λ (p : SiteId × Op). TakesBehindWatch who p.0 p.1 run) (same_Some _ (s, o) is) (takes_behind_watch a who run (way_watched stands slot c who run watches a acts))
      by (actor.Release x) acts is =
          subst (λ (p : SiteId × Op). TakesBehindWatch who p.0 p.1 run) (same_Some _ (s, o) is) (none_behind_watch who x.site (release_op x) run (release_takes_none x))
