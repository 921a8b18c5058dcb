-- What comes of a client that was made ready comes of it as it was before.
use Rattle.std.proofs.Common.{◌≡◌, ◌≢◌, ℕ, List, Option, Some, None, refl, sym, ap, ◌∙◌, subst}
use Rattle.std.proofs.lemmas.Bool.{true≢false}
use Rattle.std.specs.Prelude.{IsSome, is_some}
use Rattle.std.proofs.lemmas.Option.{none-some}
use Rattle.rbd_client.specs.declared.actor.Actor.{Actor}
use Rattle.rbd_client.specs.declared.actor.Actor.TheVariants as actor
use Rattle.rbd_client.specs.declared.slot_state.SlotState.{SlotState}
use Rattle.rbd_client.specs.Actor.{actor_at}
use Rattle.rbd_client.specs.Client.{ClientView, slot_state}
use Rattle.rbd_client.specs.Feeding.{CountsAll, DropsAtRest, GoesItsWay, IsClientAlike, IsFedBy, ReleaseIsFed, RequestIsFed, StaysUnlessRequest, WayIsFed, comings_of, state_behind, state_on_way}
use Rattle.rbd_client.proofs.Alike.{actor_alike, look_alike}
use Rattle.rbd_client.proofs.Wanted.{drops_alike}
use Rattle.rbd_commands.specs.declared.quiescing.Quiescing.TheVariants as quiescing
use Rattle.rbd_kinds.specs.declared.id.SiteId.{SiteId}
use Rattle.rbd_kinds.specs.declared.image_at.ImageAt.{ImageAt}
use Rattle.rbd_kinds.specs.declared.operation.Op.{Op}
use Rattle.rbd_lock.specs.Comings.{Coming, after_all}
use Rattle.rbd_lock.specs.Locks.{lock_state_at}
use Rattle.rbd_lock.specs.declared.acquire.Acquire.{Acquire}
use Rattle.rbd_lock.specs.declared.release.Release.{Release}
use Rattle.rbd_kinds.specs.declared.layout.Extent.{Extent}
use Rattle.rbd_kinds.specs.declared.machine.Fed.{Fed}
use Rattle.rbd_kinds.specs.declared.machine.Fed.TheVariants as fed
use Rattle.rbd_kinds.specs.declared.reply.Reply.{Reply}
use Rattle.rbd_machine.specs.Label.{Label}
use Rattle.rbd_machine.specs.Path.{at_operation}
use Rattle.rbd_machine.specs.Plan.{Plan, Ask, Await, Note, Return, Goto, Standing, plan_after}
use Rattle.rbd_slots.specs.declared.running.Occupant.{Occupant}
use Rattle.rbd_slots.specs.declared.running.Occupant.TheVariants as occupant
use Rattle.rbd_slots.specs.declared.running.Running.{Running}
use Rattle.rbd_slots.specs.Advance.{track_of, fed_by, GoesFurther, AdvancesTo, IsSameStand}
use Rattle.rbd_slots.specs.Lines.{LinesView, lines_of}
use Rattle.rbd_slots.specs.OnTrack.{LeavesOthers}
use Rattle.rbd_slots.specs.Session.{SessionView, IsAlike, IsAlikeIn, IsFed, ComesToIn, OfRunning, held_in, look_under_lock_at, running_in}
use Rattle.rbd_slots.specs.Track.{Track, run}
use Rattle.rbd_slots.proofs.Readied.{same_track}
use Rattle.rbd_site.specs.Log.{SiteLog, records_of}
use Rattle.rbd_site.specs.Step.{answer_to}
use Rattle.rbd_world.specs.Run.{Doer}
use Rattle.rbd_world.specs.Step.{Goes, operation_at}

module _ {R : Type 0} (stands : R → Standing) where
  -- ---- a request goes on from where it stood

  further_before : (slot : ℕ) (to : Standing) (t : Track) (result : Option Reply) (r q p : Running R) (lines : LinesView) → IsSameStand stands r q
      → GoesFurther stands slot to t result q p lines → GoesFurther stands slot to t result r p lines
  further_before slot to t result r q p lines same goes = record {
    none = goes.none;
    line = goes.line ∙ same.line;
    extent = goes.extent ∙ same.extent;
    looked = goes.looked;
    request = goes.request;
    track = goes.track;
    asks = goes.asks;
  }

  comes_before : (slot : ℕ) (labels : Label → Plan) (plan : Plan) (t : Track) (result : Option Reply) (r q p : Running R) (lines : LinesView) → IsSameStand stands r q
      → AdvancesTo stands slot labels plan t result q p lines → AdvancesTo stands slot labels plan t result r p lines
  comes_before slot labels (Return reply) t result r q p lines same comes = comes
  comes_before slot labels (Ask site why o next) t result r q p lines same comes = further_before slot (record { labels = labels; plan = Ask site why o next }) t result r q p lines same comes
  comes_before slot labels (Await w next) t result r q p lines same comes = further_before slot (record { labels = labels; plan = Await w next }) t result r q p lines same comes
  comes_before slot labels (Note site image event next) t result r q p lines same comes =
      further_before slot (record { labels = labels; plan = Note site image event next }) t result r q p lines same comes
  comes_before slot labels (Goto label) t result r q p lines same comes = further_before slot (record { labels = labels; plan = Goto label }) t result r q p lines same comes

  -- or it ends, and nothing is asked of what it was
  ended_before : (slot : ℕ) (labels : Label → Plan) (plan : Plan) (t : Track) (result : Option Reply) (r q : Running R) (lines : LinesView) → IsSome result
      → AdvancesTo stands slot labels plan t result q q lines → AdvancesTo stands slot labels plan t result r r lines
  ended_before slot labels (Return reply) t result r q lines ended comes = comes
  ended_before slot labels (Ask site why o next) t result r q lines ended comes = absurd (true≢false (sym ended ∙ ap is_some comes.none))
  ended_before slot labels (Await w next) t result r q lines ended comes = absurd (true≢false (sym ended ∙ ap is_some comes.none))
  ended_before slot labels (Note site image event next) t result r q lines ended comes = absurd (true≢false (sym ended ∙ ap is_some comes.none))
  ended_before slot labels (Goto label) t result r q lines ended comes = absurd (true≢false (sym ended ∙ ap is_some comes.none))

  -- ---- a slot

  module _ (slot : ℕ) (f : Fed) (result : Option Reply) (after : LinesView) where
    -- what comes of a request that stands so
    abbrev Comes : Standing → Option Extent → Track → (old new : Running R) → Type 0
    Comes s e t o p = AdvancesTo stands slot s.labels (at_operation s.labels (plan_after s.plan f)) (run slot (plan_after s.plan f) (fed_by slot e t s.plan f)) result o p after

    comes_so : (r q o p : Running R) (old new : LinesView) → IsSameStand stands r q → lines_of new ≡ lines_of old
        → Comes (stands q.request) q.extent (track_of q new) o p → Comes (stands r.request) r.extent (track_of r old) o p
    comes_so r q o p old new same lines comes =
        subst (λ s. Comes s r.extent (track_of r old) o p) same.same
        (subst (λ e. Comes (stands q.request) e (track_of r old) o p) same.extent
        (subst (λ t. Comes (stands q.request) q.extent t o p) (same_track stands r q old new same lines) comes))

    comes_in : (r q : Running R) (n : Option (Occupant R)) (old new : LinesView) → IsSameStand stands r q → lines_of new ≡ lines_of old
        → ComesToIn stands slot new f result q n after → ComesToIn stands slot old f result r n after
    comes_in r q (Some (occupant.Running p)) old new same lines comes =
        (comes.0, comes_before slot _ _ _ result r q p after same (comes_so r q q p old new same lines comes.1))
    comes_in r q None old new same lines comes = (comes.0, ended_before slot _ _ _ result r q after comes.0 (comes_so r q q q old new same lines comes.1))
    comes_in r q (Some (occupant.Refused line refusal)) old new same lines comes = elim comes [ ]

    fed_in : (o m n : Option (Occupant R)) (old new : LinesView) → IsAlikeIn stands o m → lines_of new ≡ lines_of old
        → OfRunning (λ r. ComesToIn stands slot new f result r n after) m → OfRunning (λ r. ComesToIn stands slot old f result r n after) o
    fed_in (Some (occupant.Running r)) (Some (occupant.Running q)) n old new alike lines comes = comes_in r q n old new alike lines comes
    fed_in (Some (occupant.Running r)) (Some (occupant.Refused line refusal)) n old new alike lines comes = absurd (none-some r (ap running_in alike))
    fed_in (Some (occupant.Running r)) None n old new alike lines comes = absurd (none-some r (ap running_in alike))
    fed_in (Some (occupant.Refused line refusal)) m n old new alike lines comes = elim (subst (OfRunning (λ r. ComesToIn stands slot new f result r n after)) alike comes) [ ]
    fed_in None m n old new alike lines comes = elim (subst (OfRunning (λ r. ComesToIn stands slot new f result r n after)) alike comes) [ ]

  -- ---- a session

  pub fed_alike : (slot : ℕ) (f : Fed) (result : Option Reply) (s m t : SessionView R) → IsAlike stands s m → IsFed stands slot f result m t → IsFed stands slot f result s t
  fed_alike slot f result s m t alike is_fed =
      fed_in slot f result t.lines (held_in slot s.slots) (held_in slot m.slots) (held_in slot t.slots) s.lines m.lines (alike.slots slot) alike.lines is_fed

  -- ---- a client

  module _ (slot : ℕ) (s : SiteId) (o : Op) (f : Fed) (result : Option Reply) (c m t : ClientView R) (alike : IsClientAlike stands c m) where
    same_look : look_under_lock_at stands slot m.session ≡ look_under_lock_at stands slot c.session
    same_look = look_alike stands slot c.session m.session alike.session

    same_comings : comings_of (slot_state slot m.slots).quiescing (look_under_lock_at stands slot m.session) s o f ≡ comings_of (slot_state slot c.slots).quiescing (look_under_lock_at stands slot c.session) s o f
    same_comings =
        ap (λ (xs : List SlotState). comings_of (slot_state slot xs).quiescing (look_under_lock_at stands slot m.session) s o f) alike.slots
        ∙ ap (λ (l : Option ImageAt). comings_of (slot_state slot c.slots).quiescing l s o f) same_look

    -- what is counted is counted from where it was
    counts_before : (old new : List Coming) → new ≡ old → CountsAll new m.locks t.locks → CountsAll old c.locks t.locks
    counts_before old new same counts = λ site image.
        counts site image ∙ ap (λ (xs : List Coming). after_all xs site image (lock_state_at site image m.locks)) same ∙ ap (after_all old site image) (alike.locks site image)

    request_before : RequestIsFed stands slot s o f result m t → RequestIsFed stands slot s o f result c t
    request_before is = record {
      fed = fed_alike slot f result c.session m.session t.session alike.session is.fed;
      counts = counts_before _ _ same_comings is.counts;
      state =
          is.state
          ∙ ap (λ (l : Option ImageAt). state_behind (is_some result) (is_some l) (slot_state slot m.slots)) same_look
          ∙ ap (λ (xs : List SlotState). state_behind (is_some result) (is_some (look_under_lock_at stands slot c.session)) (slot_state slot xs)) alike.slots;
      release = is.release ∙ alike.release;
    }

    way_before : (a : Acquire) → m.session ≡ c.session → WayIsFed a slot s o f result m t → WayIsFed a slot s o f result c t
    way_before a same is = record {
      comes = is.comes;
      session = subst (λ (x : SessionView R). GoesItsWay slot result x t.session) same is.session;
      counts = counts_before (comings_of quiescing.Leaves None s o f) (comings_of quiescing.Leaves None s o f) refl is.counts;
      state = is.state ∙ ap (λ (xs : List SlotState). state_on_way (is_some result) (slot_state slot t.slots).way (slot_state slot xs)) alike.slots;
      release = is.release ∙ alike.release;
    }

    release_before : (r : Release) → m.session ≡ c.session → ReleaseIsFed r s o f result m t → ReleaseIsFed r s o f result c t
    release_before r same is = record {
      none = is.none;
      session = is.session ∙ same;
      counts = counts_before (comings_of quiescing.Leaves None s o f) (comings_of quiescing.Leaves None s o f) refl is.counts;
      slots = is.slots ∙ alike.slots;
      release = is.release;
    }

    fed_before : (who : Actor) → StaysUnlessRequest who c.session m.session → IsFedBy stands slot s o f result m t who → IsFedBy stands slot s o f result c t who
    fed_before actor.Nobody stays is = is
    fed_before actor.Request stays is = request_before is
    fed_before (actor.Way a) stays is = way_before a stays is
    fed_before (actor.Release r) stays is = release_before r stays is

  -- what may be dropped may be dropped once all is ready
  pub drops_still : (slot : ℕ) (s : SiteId) (o : Op) (c m : ClientView R) → IsClientAlike stands c m → DropsAtRest (actor_at stands slot c) s o c → DropsAtRest (actor_at stands slot m) s o m
  drops_still slot s o c m alike drops = by (actor_at stands slot c) (actor_alike stands slot c m alike) drops
    where
      by : (who : Actor) → actor_at stands slot m ≡ who → DropsAtRest who s o c → DropsAtRest (actor_at stands slot m) s o m
      by actor.Nobody is d = subst (λ w. DropsAtRest w s o m) (sym is) tt
      by actor.Request is d = drops_alike stands slot s o c m alike d
      by (actor.Way a) is d = subst (λ w. DropsAtRest w s o m) (sym is) tt
      by (actor.Release r) is d = subst (λ w. DropsAtRest w s o m) (sym is) tt

  -- it was made ready, and then fed
  pub goes_alike : (slot : ℕ) (by : Doer) (s : SiteId) (o done : Op) (before : SiteLog) (f : Fed) (result : Option Reply) (c m t : ClientView R)
      → o ≡ done → f ≡ fed.Answer (answer_to (records_of before) c.session.instance o) → IsClientAlike stands c m → StaysUnlessRequest (actor_at stands slot c) c.session m.session
      → ((other : ℕ) → other ≢ slot → held_in other m.session.slots ≡ held_in other c.session.slots)
      → IsFedBy stands slot s done f result m t (actor_at stands slot m)
      → ((other : ℕ) → other ≢ slot → (held_in other t.session.slots ≡ held_in other m.session.slots) × (slot_state other t.slots ≡ slot_state other m.slots))
      → LeavesOthers slot (lines_of m.session.lines) (lines_of t.session.lines)
      → (t.session.instance ≡ m.session.instance) × (t.session.home ≡ m.session.home) × (t.heard ≡ m.heard)
      → Goes stands slot (operation_at before c.session.instance by s o) result c t
  goes_alike slot by s o done before f result c m t same told alike stays others is_fed slots lines who = record {
    fed =
        fed_before slot s o (fed.Answer (answer_to (records_of before) c.session.instance o)) result c m t alike (actor_at stands slot c) stays
        (subst (λ (g : Fed). IsFedBy stands slot s o g result m t (actor_at stands slot c)) told
        (subst (λ (x : Op). IsFedBy stands slot s x f result m t (actor_at stands slot c)) (sym same)
        (subst (IsFedBy stands slot s done f result m t) (actor_alike stands slot c m alike) is_fed)));
    slots = λ other differ. (slots other differ).0 ∙ others other differ;
    states = λ other differ. (slots other differ).1 ∙ ap (slot_state other) alike.slots;
    others = subst (λ ls. LeavesOthers slot ls (lines_of t.session.lines)) alike.session.lines lines;
    client = record { instance = who.0 ∙ alike.session.instance; home = who.1 ∙ alike.session.home };
    heard = who.2 ∙ alike.heard;
  }
