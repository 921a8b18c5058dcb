-- What is said of a client by its machines is so of the plans that they follow.
use Rattle.std.proofs.Common.{◌≡◌, ℕ, ◌==◌, if◌then◌else◌, Option, Some, None, refl, sym, ap, ◌∙◌, subst}
use Rattle.std.specs.Option.{is_some, option_map}
use Rattle.std.specs.Prelude.{IsSome}
use Rattle.rbd_client.specs.declared.actor.Actor.{Actor}
use Rattle.rbd_client.specs.declared.actor.Actor.TheVariants as actor
use Rattle.rbd_client.specs.declared.slot_state.Way.{Way}
use Rattle.rbd_client.specs.declared.slot_state.Way.TheVariants as way
use Rattle.rbd_client.specs.Actor.{actor_at, actor_on, due_release, kind_by, kind_wanted, op_by, op_wanted, release_actor}
use Rattle.rbd_client.specs.Client.{ClientView, slot_state}
use Rattle.rbd_client.specs.Feeding.{CountsAll, DropsAtRest, GoesItsWay, IsAtRest, IsClientAlike, IsFedBy, IsGivenUp, ReleaseIsFed, RequestIsFed, WayIsFed, comings_of, state_behind}
use Rattle.rbd_client.specs.Seen.{as_is, seen, seen_running, seen_session}
use Rattle.rbd_client.specs.Sound.{IsSoundClient, IsWellOnWay, WaitsForLook}
use Rattle.rbd_kinds.specs.declared.header_op.HeaderOp.TheVariants as header
use Rattle.rbd_kinds.specs.declared.id.SiteId.{SiteId}
use Rattle.rbd_kinds.specs.declared.machine.Fed.{Fed}
use Rattle.rbd_kinds.specs.declared.operation.Op.{Op}
use Rattle.rbd_kinds.specs.declared.operation.Op.TheVariants as op
use Rattle.rbd_kinds.specs.declared.reply.Reply.{Reply}
use Rattle.rbd_lock.specs.Locks.{LocksView}
use Rattle.rbd_machine.specs.Plan.{Standing}
use Rattle.rbd_lock.specs.declared.acquire.Acquire.{Acquire}
use Rattle.rbd_lock.specs.declared.release.Release.{Release}
use Rattle.rbd_slots.specs.declared.running.Running.{Running}
use Rattle.rbd_slots.specs.Advance.{track_of}
use Rattle.rbd_slots.specs.Lines.{lines_of}
use Rattle.rbd_slots.specs.Session.{SessionView, is_look_at, kind_asked, running_at}
use Rattle.rbd_slots.specs.Track.{ended_by}
use Rattle.rbd_client.proofs.SeenSession.{fed_seen, free_slot_seen, free_slot_unseen, kind_seen, look_seen, op_seen, running_seen, running_unseen, session_alike_seen, session_sound_seen, session_sound_unseen, something_unseen}

module _ {R : Type 0} (stands : R → Standing) where
  -- ---- who acts, and what is wanted

  pub actor_seen : (slot : ℕ) (c : ClientView R) → actor_at as_is slot (seen stands c) ≡ actor_at stands slot c
  actor_seen slot c = ap (λ look. if slot == 0 then release_actor c.release (due_release c) else actor_on (slot_state slot c.slots).way look c.locks) (look_seen stands slot c.session)

  kind_by_seen : (slot : ℕ) (s : SessionView R) (who : Actor) → kind_by as_is slot (seen_session stands s) who ≡ kind_by stands slot s who
  kind_by_seen slot s actor.Nobody = refl
  kind_by_seen slot s actor.Request = kind_seen stands slot s
  kind_by_seen slot s (actor.Way a) = refl
  kind_by_seen slot s (actor.Release r) = refl

  op_by_seen : (slot : ℕ) (s : SessionView R) (who : Actor) → op_by as_is slot (seen_session stands s) who ≡ op_by stands slot s who
  op_by_seen slot s actor.Nobody = refl
  op_by_seen slot s actor.Request = op_seen stands slot s
  op_by_seen slot s (actor.Way a) = refl
  op_by_seen slot s (actor.Release r) = refl

  pub kind_wanted_seen : (slot : ℕ) (c : ClientView R) → kind_wanted as_is slot (seen stands c) ≡ kind_wanted stands slot c
  kind_wanted_seen slot c = ap (kind_by as_is slot (seen_session stands c.session)) (actor_seen slot c) ∙ kind_by_seen slot c.session (actor_at stands slot c)

  pub op_wanted_seen : (slot : ℕ) (c : ClientView R) → op_wanted as_is slot (seen stands c) ≡ op_wanted stands slot c
  op_wanted_seen slot c = ap (op_by as_is slot (seen_session stands c.session)) (actor_seen slot c) ∙ op_by_seen slot c.session (actor_at stands slot c)

  rests_unseen : (site : SiteId) (o : Op) (c : ClientView R) → IsAtRest site o (seen stands c) → IsAtRest site o c
  rests_unseen site (op.Header image header.LockDrop) c rests = rests
  rests_unseen site (op.Header image header.Remove) c rests = rests
  rests_unseen site _ c rests = tt

  -- a lock that would be dropped, by the plans, may be dropped
  pub drops_unseen : (slot : ℕ) (site : SiteId) (o : Op) (c : ClientView R) → DropsAtRest (actor_at as_is slot (seen stands c)) site o (seen stands c) → DropsAtRest (actor_at stands slot c) site o c
  drops_unseen slot site o c drops = subst (λ who. DropsAtRest who site o c) (actor_seen slot c) (by (actor_at as_is slot (seen stands c)) drops)
    where
      by : (who : Actor) → DropsAtRest who site o (seen stands c) → DropsAtRest who site o c
      by actor.Nobody h = h
      by actor.Request h = rests_unseen site o c h
      by (actor.Way a) h = h
      by (actor.Release r) h = h

  -- ---- a sound client

  waits_seen : (slot : ℕ) (site : SiteId) (image : ℕ) (s : SessionView R) → WaitsForLook stands slot site image s → WaitsForLook as_is slot site image (seen_session stands s)
  waits_seen slot site image s waits = record {
    request = seen_running stands waits.request;
    runs = running_seen stands slot s ∙ ap (option_map (seen_running stands)) waits.runs;
    place = waits.place;
    wants = waits.wants;
    member = waits.member;
    found = waits.found;
    waits = waits.waits;
    at_look = look_seen stands slot s ∙ waits.at_look;
  }

  way_seen : (slot : ℕ) (w : Way) (s : SessionView R) (locks : LocksView) → IsWellOnWay stands slot w s locks → IsWellOnWay as_is slot w (seen_session stands s) locks
  way_seen slot way.Unbegun s locks well = well
  way_seen slot (way.On a) s locks well = waits_seen slot a.site a.image s well
  way_seen slot (way.Taken p) s locks well = (waits_seen slot p.site p.image s well.0, well.1)

  pub sound_seen : (c : ClientView R) → IsSoundClient stands c → IsSoundClient as_is (seen stands c)
  sound_seen c sound = record {
    session = session_sound_seen stands c.session sound.session;
    locks = sound.locks;
    slots = sound.slots;
    free = λ slot free. sound.free slot (free_slot_unseen stands slot c.session.slots free);
    ways = λ slot. way_seen slot (slot_state slot c.slots).way c.session c.locks (sound.ways slot);
    telling = sound.telling;
  }

  waits_unseen : (slot : ℕ) (site : SiteId) (image : ℕ) (s : SessionView R) → WaitsForLook as_is slot site image (seen_session stands s) → WaitsForLook stands slot site image s
  waits_unseen slot site image s waits = at (running_unseen stands slot s waits.request waits.runs)
    where
      at : (r : Running R) × (running_at slot s ≡ Some r) × (seen_running stands r ≡ waits.request) → WaitsForLook stands slot site image s
      at (r, runs, same) = record {
        request = r;
        runs = runs;
        place = ap (λ (q : Running Standing). q.place) same ∙ waits.place;
        wants = ap (λ (q : Running Standing). is_look_at site (kind_asked q.request.plan)) same ∙ waits.wants;
        member = waits.member;
        found = waits.found;
        waits = waits.waits;
        at_look = sym (look_seen stands slot s) ∙ waits.at_look;
      }

  way_unseen : (slot : ℕ) (w : Way) (s : SessionView R) (locks : LocksView) → IsWellOnWay as_is slot w (seen_session stands s) locks → IsWellOnWay stands slot w s locks
  way_unseen slot way.Unbegun s locks well = well
  way_unseen slot (way.On a) s locks well = waits_unseen slot a.site a.image s well
  way_unseen slot (way.Taken p) s locks well = (waits_unseen slot p.site p.image s well.0, well.1)

  pub sound_unseen : (c : ClientView R) → IsSoundClient as_is (seen stands c) → IsSoundClient stands c
  sound_unseen c sound = record {
    session = session_sound_unseen stands c.session sound.session;
    locks = sound.locks;
    slots = sound.slots;
    free = λ slot free. sound.free slot (free_slot_seen stands slot c.session.slots free);
    ways = λ slot. way_unseen slot (slot_state slot c.slots).way c.session c.locks (sound.ways slot);
    telling = sound.telling;
  }

  -- ---- a client that stays as it is but for what it is ready for

  pub alike_seen : (old new : ClientView R) → IsClientAlike stands old new → IsClientAlike as_is (seen stands old) (seen stands new)
  alike_seen old new alike = record {
    session = session_alike_seen stands old.session new.session alike.session;
    locks = alike.locks;
    asked = alike.asked;
    slots = alike.slots;
    release = alike.release;
    heard = alike.heard;
  }

  -- ---- what an answer comes to

  given_up_seen : (slot : ℕ) (old new : SessionView R) → IsGivenUp slot old new → IsGivenUp slot (seen_session stands old) (seen_session stands new)
  given_up_seen slot old new given = record {
    free = λ runs. free_slot_seen stands slot new.slots (given.free (something_unseen (seen_running stands) (running_at slot old) (subst IsSome (running_seen stands slot old) runs)));
    left = λ q is. left q (running_unseen stands slot old q is);
  }
    where
      left : (q : Running Standing) → (r : Running R) × (running_at slot old ≡ Some r) × (seen_running stands r ≡ q) → lines_of new.lines ≡ (ended_by slot (track_of q old.lines)).lines
      left q at = subst (λ (q : Running Standing). lines_of new.lines ≡ (ended_by slot (track_of q old.lines)).lines) at.2 (given.left at.0 at.1)

  its_way_seen : (slot : ℕ) (result : Option Reply) (old new : SessionView R) → GoesItsWay slot result old new → GoesItsWay slot result (seen_session stands old) (seen_session stands new)
  its_way_seen slot None old new goes = ap (seen_session stands) goes
  its_way_seen slot (Some reply) old new goes = given_up_seen slot old new goes

  request_fed_seen : (slot : ℕ) (site : SiteId) (o : Op) (f : Fed) (result : Option Reply) (old new : ClientView R)
      → RequestIsFed stands slot site o f result old new → RequestIsFed as_is slot site o f result (seen stands old) (seen stands new)
  request_fed_seen slot site o f result old new is = record {
    fed = fed_seen stands slot f result old.session new.session is.fed;
    counts = subst (λ look. CountsAll (comings_of (slot_state slot old.slots).quiescing look site o f) old.locks new.locks) (sym (look_seen stands slot old.session)) is.counts;
    state = subst (λ look. slot_state slot new.slots ≡ state_behind (is_some result) (is_some look) (slot_state slot old.slots)) (sym (look_seen stands slot old.session)) is.state;
    release = is.release;
  }

  way_fed_seen : (a : Acquire) (slot : ℕ) (site : SiteId) (o : Op) (f : Fed) (result : Option Reply) (old new : ClientView R)
      → WayIsFed a slot site o f result old new → WayIsFed a slot site o f result (seen stands old) (seen stands new)
  way_fed_seen a slot site o f result old new is = record {
    comes = is.comes;
    session = its_way_seen slot result old.session new.session is.session;
    counts = is.counts;
    state = is.state;
    release = is.release;
  }

  release_fed_seen : (r : Release) (site : SiteId) (o : Op) (f : Fed) (result : Option Reply) (old new : ClientView R)
      → ReleaseIsFed r site o f result old new → ReleaseIsFed r site o f result (seen stands old) (seen stands new)
  release_fed_seen r site o f result old new is = record {
    none = is.none;
    session = ap (seen_session stands) is.session;
    counts = is.counts;
    slots = is.slots;
    release = is.release;
  }

  fed_by_seen : (slot : ℕ) (site : SiteId) (o : Op) (f : Fed) (result : Option Reply) (old new : ClientView R) (who : Actor)
      → IsFedBy stands slot site o f result old new who → IsFedBy as_is slot site o f result (seen stands old) (seen stands new) who
  fed_by_seen slot site o f result old new actor.Nobody is = is
  fed_by_seen slot site o f result old new actor.Request is = request_fed_seen slot site o f result old new is
  fed_by_seen slot site o f result old new (actor.Way a) is = way_fed_seen a slot site o f result old new is
  fed_by_seen slot site o f result old new (actor.Release r) is = release_fed_seen r site o f result old new is

  pub client_fed_seen : (slot : ℕ) (site : SiteId) (o : Op) (f : Fed) (result : Option Reply) (old new : ClientView R)
      → IsFedBy stands slot site o f result old new (actor_at stands slot old)
      → IsFedBy as_is slot site o f result (seen stands old) (seen stands new) (actor_at as_is slot (seen stands old))
  client_fed_seen slot site o f result old new is =
      subst (IsFedBy as_is slot site o f result (seen stands old) (seen stands new)) (sym (actor_seen slot old)) (fed_by_seen slot site o f result old new (actor_at stands slot old) is)
