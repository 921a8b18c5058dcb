-- Whoever acts for a client does only what it may by what it knows, and knows it truly.
use Rattle.std.proofs.Common.{◌≡◌, ℕ, ◌==◌, ◌||◌, cond, Bool, true, false, Option, Some, None, sym, ap, subst}
use Rattle.std.proofs.lemmas.Option.{none-some, same_Some}
use Rattle.rbd_client.specs.declared.actor.Actor.{Actor}
use Rattle.rbd_client.specs.declared.actor.Actor.TheVariants as actor
use Rattle.rbd_client.specs.declared.slot_state.Way.{Way}
use Rattle.rbd_client.specs.declared.slot_state.Way.TheVariants as way
use Rattle.rbd_client.specs.Actor.{actor_at, actor_at_look, actor_by, actor_on, due_release, op_by, op_wanted, release_actor}
use Rattle.rbd_client.specs.Client.{ClientView, slot_state}
use Rattle.rbd_knowledge.specs.ClientsKnowing.{known_to}
use Rattle.rbd_knowledge.specs.Truth.{IsTrueOf, IsWayTrue}
use Rattle.rbd_knowledge.proofs.Releases.{release_is_true, release_permits}
use Rattle.rbd_knowledge.proofs.Ways.{begins_with_nothing, way_permits}
use Rattle.rbd_kinds.specs.declared.id.Instance.{Instance}
use Rattle.rbd_kinds.specs.declared.id.SiteId.{SiteId}
use Rattle.rbd_kinds.specs.declared.operation.Op.{Op}
use Rattle.rbd_knowledge.specs.Knowing.{AllKnow}
use Rattle.rbd_knowledge.proofs.Behind.{knows_there}
use Rattle.rbd_knowledge.proofs.Wanting.{wants}
use Rattle.rbd_kinds.specs.declared.image_at.ImageAt.{ImageAt}
use Rattle.rbd_lock.specs.declared.lock_state.LockState.{LockState}
use Rattle.rbd_lock.specs.Locks.{LocksView, lock_state_at}
use Rattle.rbd_machine.specs.Knowledge.{Knowledge}
use Rattle.rbd_machine.specs.Lawful.{IsLawful}
use Rattle.rbd_machine.specs.Permits.{Permits}
use Rattle.rbd_machine.specs.Plan.{Standing}
use Rattle.rbd_lock.specs.Acquire.{begun_way, op_of}
use Rattle.rbd_lock.specs.Release.{begun_release, release_op}
use Rattle.rbd_lock.specs.declared.release.Release.{Release}
use Rattle.rbd_interference.specs.Truth.{IsTrueAt}
use Rattle.rbd_interference.proofs.Nothing.{nothing_is_true}
use Rattle.rbd_slots.specs.Session.{SessionView, held_in, look_under_lock_at, running_in}
use Rattle.rbd_site.specs.Records.{Records}

-- an operation that is asked for at a site
abbrev pub asked_at : SiteId → Op → Option (SiteId × Op)
asked_at site o = Some (site, o)

module _ {R : Type 0} (stands : R → Standing) where
  -- ---- it may

  request_permits : (slot : ℕ) (s : SessionView R) (knows : ℕ → Knowledge) (site : SiteId) (o : Op) → AllKnow stands knows s → op_by stands slot s actor.Request ≡ Some (site, o)
      → Permits (knows slot) site o
  request_permits slot s knows site o all is =
      let w = wants stands slot s.lines site o (held_in slot s.slots) is in
      let known = knows_there stands s knows slot w.request (ap running_in w.is) all in
      (subst (IsLawful known.known_at (knows slot)) w.plan known.lawful).0

  told : (k : Knowledge) (site there : SiteId) (o wanted : Op) → asked_at there wanted ≡ asked_at site o → Permits k there wanted → Permits k site o
  told k site there o wanted is permits = subst (λ (p : SiteId × Op). Permits k p.0 p.1) (same_Some (there, wanted) (site, o) is) permits

  acts_permits : (slot : ℕ) (s : SessionView R) (knows : ℕ → Knowledge) (site : SiteId) (o : Op) → AllKnow stands knows s → (who : Actor) → op_by stands slot s who ≡ Some (site, o)
      → Permits (known_to (knows slot) who) site o
  acts_permits slot s knows site o all actor.Nobody is = absurd (none-some (site, o) is)
  acts_permits slot s knows site o all actor.Request is = request_permits slot s knows site o all is
  acts_permits slot s knows site o all (actor.Way a) is = told (known_to (knows slot) (actor.Way a)) site a.site o (op_of a) is (way_permits a)
  acts_permits slot s knows site o all (actor.Release r) is = told (known_to (knows slot) (actor.Release r)) site r.site o (release_op r) is (release_permits r)

  pub does_what_it_may : (slot : ℕ) (c : ClientView R) (knows : ℕ → Knowledge) (site : SiteId) (o : Op) → AllKnow stands knows c.session → op_wanted stands slot c ≡ Some (site, o)
      → Permits (known_to (knows slot) (actor_at stands slot c)) site o
  does_what_it_may slot c knows site o all is = acts_permits slot c.session knows site o all (actor_at stands slot c) is

  -- ---- it knows truly

  module _ (there : SiteId) (r : Records) (me : Instance) (k : Knowledge) (t : IsTrueAt there r me k) where
    abbrev Truly : Actor → Type 0
    Truly who = IsTrueAt there r me (known_to k who)

    by_state : (s : LockState) (site : SiteId) (image : ℕ) → Truly (actor_by s site image)
    by_state s site image = go (s.quiesced || s.asked) s.owned
      where
        go : (held owned : Bool) → Truly (cond held actor.Nobody (cond owned actor.Request (actor.Way (begun_way site image s.watched))))
        go true owned = nothing_is_true there r me
        go false true = t
        go false false = subst (IsTrueAt there r me) (sym (begins_with_nothing s.watched site)) (nothing_is_true there r me)

    by_look : (look : Option ImageAt) (locks : LocksView) → Truly (actor_at_look look locks)
    by_look None locks = t
    by_look (Some p) locks = by_state (lock_state_at p.site p.image locks) p.site p.image

    by_way : (w : Way) → IsWayTrue there r me w → (look : Option ImageAt) (locks : LocksView) → Truly (actor_on w look locks)
    by_way way.Unbegun on look locks = by_look look locks
    by_way (way.On a) on look locks = on
    by_way (way.Taken p) on look locks = t

    by_release : (o : Option Release) (due : Option ImageAt) → Truly (release_actor o due)
    by_release (Some x) due = release_is_true there r me x
    by_release None (Some p) = release_is_true there r me (begun_release p.site p.image)
    by_release None None = nothing_is_true there r me

  pub knows_truly : (slot : ℕ) (c : ClientView R) (knows : ℕ → Knowledge) (there : SiteId) (r : Records) (me : Instance) → IsTrueOf there r me knows c
      → IsTrueAt there r me (known_to (knows slot) (actor_at stands slot c))
  knows_truly slot c knows there r me t = go (slot == 0)
    where
      go : (b : Bool)
          → IsTrueAt there r me (known_to (knows slot) (cond b (release_actor c.release (due_release c)) (actor_on (slot_state slot c.slots).way (look_under_lock_at stands slot c.session) c.locks)))
      go true = by_release there r me (knows slot) (t.requests slot) c.release (due_release c)
      go false = by_way there r me (knows slot) (t.requests slot) (slot_state slot c.slots).way (t.ways slot) (look_under_lock_at stands slot c.session) c.locks
