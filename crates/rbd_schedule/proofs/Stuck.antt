-- Where all slots of a client are still, each of its requests is held up at a lock, or behind such
-- a one.
use Rattle.std.proofs.Common.{◌≡◌, ℕ, ◌≤◌, ◌==◌, ◌||◌, ◌⊎◌, inl, inr, cond, Bool, true, false, List, [], ◌∷◌, Option, Some, None, refl, sym, ap, ◌∙◌, subst, arith}
use Rattle.std.proofs.lemmas.Bool.{eq-eqb, false≢true, ne_eqb, true≢false}
use Rattle.std.proofs.lemmas.Option.{none-some}
use Rattle.rbd_client.specs.declared.actor.Actor.{Actor}
use Rattle.rbd_client.specs.declared.actor.Actor.TheVariants as actor
use Rattle.rbd_client.specs.declared.slot_state.Way.{Way}
use Rattle.rbd_client.specs.declared.slot_state.Way.TheVariants as way
use Rattle.rbd_client.specs.Actor.{actor_at, actor_by, actor_on, due_release, is_acquiring, release_actor}
use Rattle.rbd_client.specs.Client.{ClientView, slot_state}
use Rattle.rbd_client.specs.Sound.{IsSoundClient, IsWellOnWay}
use Rattle.rbd_kinds.specs.declared.header.HeaderView.{HeaderView}
use Rattle.rbd_kinds.specs.declared.id.Instance.{Instance}
use Rattle.rbd_kinds.specs.declared.id.SiteId.{SiteId}
use Rattle.rbd_kinds.specs.declared.image_at.ImageAt.{ImageAt}
use Rattle.rbd_kinds.specs.declared.notice.Notice.{Notice}
use Rattle.rbd_queue.specs.Line.{Member, member_of}
use Rattle.rbd_lock.specs.declared.lock_state.LockState.{LockState}
use Rattle.rbd_lock.specs.Locks.{LocksView, lock_state_at}
use Rattle.rbd_machine.specs.Plan.{Standing}
use Rattle.rbd_lock.specs.Acquire.{begun_way}
use Rattle.rbd_lock.specs.declared.acquire.Acquire.{Acquire}
use Rattle.rbd_slots.specs.declared.running.Occupant.{Occupant}
use Rattle.rbd_slots.specs.declared.running.Occupant.TheVariants as occupant
use Rattle.rbd_slots.specs.declared.running.Running.{Running}
use Rattle.rbd_slots.specs.Advance.{track_of}
use Rattle.rbd_slots.specs.Lines.{lines_of}
use Rattle.rbd_slots.specs.OnTrack.{IsSomewhere}
use Rattle.rbd_slots.specs.Session.{held_in, look_under_lock_at, running_at, running_in}
use Rattle.rbd_slots.specs.Waits.{waits}
use Rattle.rbd_slots.proofs.Consequences.{first_goes, members_run_there}
use Rattle.rbd_slots.proofs.Sound.{held_range}
use Rattle.rbd_site.specs.Step.{is_fenced}
use Rattle.rbd_world.specs.Sound.{IsSoundWorld}
use Rattle.rbd_world.specs.World.{WorldView, client_in, records_in}
use Rattle.rbd_world.proofs.OwnersCount.{owner_is_fenced}
use Rattle.rbd_world.proofs.OwnersWatch.{owner_of}
use Rattle.rbd_schedule.specs.Ends.{IsAnothers, IsHeldUp, KeepsLock, IsLockedOut, IsStuckIn}
use Rattle.rbd_schedule.proofs.Going.{alone_goes, runs_there}
use Rattle.rbd_schedule.specs.Notices.{was_heard}
use Rattle.rbd_schedule.proofs.Idle.{IsStill, Stays, StaysIn}
use Rattle.rbd_schedule.proofs.Posting.{HasBeenAsked, IsPosted}

-- ---- who acts at a slot of a request

abbrev is_nobody : Actor → Bool
is_nobody actor.Nobody = true
is_nobody _ = false

-- the way that acts, or another one where none does
abbrev way_or : Acquire → Actor → Acquire
way_or other (actor.Way a) = a
way_or other who = other

abbrev is_release : Actor → Bool
is_release (actor.Release r) = true
is_release _ = false

-- A request that doesn't act itself stands at its look, and why.
record StandsOut {R : Type 0} (stands : R → Standing) (lost : (number : ℕ) → Bool) (w : WorldView R) (c : ClientView R) (slot : ℕ) (who : Actor) : Type 0 where
  image : ImageAt
  look : look_under_lock_at stands slot c.session ≡ Some image
  out : IsLockedOut lost image w c who

-- what a client was asked for it has quiesced
abbrev pub QuietsAsked : {R : Type 0} → ClientView R → Type 0
QuietsAsked c = (site : SiteId) (image : ℕ) → (lock_state_at site image c.locks).asked ≡ true → (lock_state_at site image c.locks).quiesced ≡ true

abbrev pub AllQuiet : {R : Type 0} → WorldView R → Type 0
AllQuiet {R} w = (s : ℕ) (c : ClientView R) → client_in s w.lives ≡ Some c → QuietsAsked c

-- an owner was asked, or a notice that asks it is lost
abbrev pub IsAsked : {R : Type 0} → (lost : (number : ℕ) → Bool) → WorldView R → Instance → SiteId → (image : ℕ) → Type 0
IsAsked lost w owner site image = (number : ℕ) × (n : Notice) × IsPosted w owner site image number n × ((lost number ≡ true) ⊎ HasBeenAsked w owner site image)

-- each way of a client is to a lock that is another's, whose owner was asked
abbrev pub WaysAreShown : {R : Type 0} → (stands : R → Standing) → (lost : (number : ℕ) → Bool) → WorldView R → ClientView R → Type 0
WaysAreShown {R} stands lost w c = (slot : ℕ) → (slot == 0) ≡ false → (r : Running R) → running_at slot c.session ≡ Some r → (a : Acquire) → actor_at stands slot c ≡ actor.Way a
    → (lock : IsAnothers (records_in a.site w.sites) a.image c.session.instance) × IsAsked lost w lock.owner a.site a.image

module _ {R : Type 0} (stands : R → Standing) (lost : (number : ℕ) → Bool) (w : WorldView R) (world : IsSoundWorld stands w) (c : ClientView R) (sound : IsSoundClient stands c) (shown : WaysAreShown stands lost w c) (quiet : AllQuiet w) (mine : QuietsAsked c) (slot : ℕ) (some : (slot == 0) ≡ false) where
  acts : actor_at stands slot c ≡ actor_on (slot_state slot c.slots).way (look_under_lock_at stands slot c.session) c.locks
  acts = ap (λ x. cond x (release_actor c.release (due_release c)) (actor_on (slot_state slot c.slots).way (look_under_lock_at stands slot c.session) c.locks)) some

  never_releases : (w : Way) (look : Option ImageAt) (locks : LocksView) → is_release (actor_on w look locks) ≡ false
  never_releases (way.On a) look locks = refl
  never_releases (way.Taken p) look locks = refl
  never_releases way.Unbegun None locks = refl
  never_releases way.Unbegun (Some p) locks = by (lock_state_at p.site p.image locks)
    where
      by : (s : LockState) → is_release (actor_by s p.site p.image) ≡ false
      by s = go (s.quiesced || s.asked) s.owned
        where
          go : (b o : Bool) → is_release (cond b actor.Nobody (cond o actor.Request (actor.Way (begun_way p.site p.image s.watched)))) ≡ false
          go true o = refl
          go false true = refl
          go false false = refl

  -- nobody acts where a quiesce holds it back
  held_back : (p : ImageAt) → actor_by (lock_state_at p.site p.image c.locks) p.site p.image ≡ actor.Nobody → (lock_state_at p.site p.image c.locks).quiesced ≡ true
  held_back p is = by (lock_state_at p.site p.image c.locks).quiesced refl (lock_state_at p.site p.image c.locks).asked refl (lock_state_at p.site p.image c.locks).owned (ap is_nobody is)
    where
      by : (q : Bool) → (lock_state_at p.site p.image c.locks).quiesced ≡ q → (a : Bool) → (lock_state_at p.site p.image c.locks).asked ≡ a → (o : Bool)
          → is_nobody (cond (q || a) actor.Nobody (cond o actor.Request (actor.Way (begun_way p.site p.image (lock_state_at p.site p.image c.locks).watched)))) ≡ true → (lock_state_at p.site p.image c.locks).quiesced ≡ true
      by true quiesced a asked o nobody = quiesced
      by false quiesced true asked o nobody = mine p.site p.image asked
      by false quiesced false asked true nobody = absurd (false≢true nobody)
      by false quiesced false asked false nobody = absurd (false≢true nobody)

  nobody_out : (y : Way) → (slot_state slot c.slots).way ≡ y → (look : Option ImageAt) → look_under_lock_at stands slot c.session ≡ look → actor_on y look c.locks ≡ actor.Nobody → StandsOut stands lost w c slot actor.Nobody
  nobody_out (way.On a) on look at is = absurd (false≢true (ap is_nobody is))
  nobody_out (way.Taken p) on look at is = absurd (false≢true (ap is_nobody is))
  nobody_out way.Unbegun on None at is = absurd (false≢true (ap is_nobody is))
  nobody_out way.Unbegun on (Some p) at is = record { image = p; look = at; out = held_back p is }

  -- a way that acts is to the lock of the image that is looked at
  record IsWayTo (x : Acquire) : Type 0 where
    image : ImageAt
    look : look_under_lock_at stands slot c.session ≡ Some image
    site_is : x.site ≡ image.site
    image_is : x.image ≡ image.image

  begins_there : (p : ImageAt) (x : Acquire) → look_under_lock_at stands slot c.session ≡ Some p → actor_by (lock_state_at p.site p.image c.locks) p.site p.image ≡ actor.Way x → IsWayTo x
  begins_there p x look is = go ((lock_state_at p.site p.image c.locks).quiesced || (lock_state_at p.site p.image c.locks).asked) (lock_state_at p.site p.image c.locks).owned is
    where
      go : (b o : Bool) → cond b actor.Nobody (cond o actor.Request (actor.Way (begun_way p.site p.image (lock_state_at p.site p.image c.locks).watched))) ≡ actor.Way x → IsWayTo x
      go true o is = absurd (false≢true (ap is_acquiring is))
      go false true is = absurd (false≢true (ap is_acquiring is))
      go false false is =
          let same : begun_way p.site p.image (lock_state_at p.site p.image c.locks).watched ≡ x = ap (way_or x) is in
          record { image = p; look = look; site_is = sym (ap (λ (y : Acquire). y.site) same); image_is = sym (ap (λ (y : Acquire). y.image) same) }

  way_to : (x : Acquire) (y : Way) → (slot_state slot c.slots).way ≡ y → (look : Option ImageAt) → look_under_lock_at stands slot c.session ≡ look → actor_on y look c.locks ≡ actor.Way x → IsWayTo x
  way_to x (way.On a) on look at is =
      let well = subst (λ y. IsWellOnWay stands slot y c.session c.locks) on (sound.ways slot) in
      let same : a ≡ x = ap (way_or x) is in
      record { image = record { site = a.site; image = a.image }; look = well.at_look; site_is = sym (ap (λ (y : Acquire). y.site) same); image_is = sym (ap (λ (y : Acquire). y.image) same) }
  way_to x (way.Taken p) on look at is = absurd (false≢true (ap is_acquiring is))
  way_to x way.Unbegun on None at is = absurd (false≢true (ap is_acquiring is))
  way_to x way.Unbegun on (Some p) at is = begins_there p x at is

  -- an owner that runs keeps it
  kept_by : (p : ImageAt) (h : HeaderView) (owner : Instance) → (records_in p.site w.sites).headers p.image ≡ Some h → h.owner ≡ Some owner → IsAsked lost w owner p.site p.image
      → (d : ClientView R) → client_in owner.session w.lives ≡ Some d → d.session.instance ≡ owner → KeepsLock lost w p owner (lock_state_at p.site p.image d.locks)
  kept_by p h owner header has (number, n, it, told) d there is = by (lock_state_at p.site p.image d.locks).asked refl (lock_state_at p.site p.image d.locks).owned refl (was_heard number w.calls) refl told
    where
      asked_so : HasBeenAsked w owner p.site p.image → (lock_state_at p.site p.image d.locks).asked ≡ false → (lock_state_at p.site p.image d.locks).owned ≡ true → ⊥
      asked_so asked none owned = true≢false (sym (asked d there is owned) ∙ none)

      -- it has the lock, and doesn't count it
      gave_up : (lock_state_at p.site p.image d.locks).owned ≡ false → is_fenced (records_in p.site w.sites) owner ≡ true
      gave_up none =
          subst (λ i. is_fenced (records_in p.site w.sites) i ≡ true) is
          (owner_is_fenced stands w world owner.session d there p.site p.image (ap owner_of header ∙ has ∙ ap Some (sym is)) none)

      by : (a : Bool) → (lock_state_at p.site p.image d.locks).asked ≡ a → (o : Bool) → (lock_state_at p.site p.image d.locks).owned ≡ o → (h : Bool) → was_heard number w.calls ≡ h → (lost number ≡ true) ⊎ HasBeenAsked w owner p.site p.image
          → KeepsLock lost w p owner (lock_state_at p.site p.image d.locks)
      by true asked o owned h heard told = inl (quiet owner.session d there p.site p.image asked)
      by false asked false owned h heard told = inr (inl (record { counts = owned; fenced = gave_up owned }))
      by false asked true owned true heard told = absurd (asked_so (it.heard heard) asked owned)
      by false asked true owned false heard (inr now) = absurd (asked_so now asked owned)
      by false asked true owned false heard (inl lost_it) = inr (inr (record {
        number = number;
        request = n;
        posted = it.posted;
        to = it.to;
        site_is = it.site_is;
        image_is = it.image_is;
        kind = it.kind;
        is_lost = lost_it;
        unheard = heard;
      }))

  way_out : (r : Running R) → running_at slot c.session ≡ Some r → (x : Acquire) → actor_at stands slot c ≡ actor.Way x → IsWayTo x → StandsOut stands lost w c slot (actor.Way x)
  way_out r runs x at to =
      let shows = subst (λ s. (lock : IsAnothers (records_in s w.sites) to.image.image c.session.instance) × IsAsked lost w lock.owner s to.image.image) to.site_is
      (subst (λ i. (lock : IsAnothers (records_in x.site w.sites) i c.session.instance) × IsAsked lost w lock.owner x.site i) to.image_is (shown slot some r runs x at)) in
      record { image = to.image; look = to.look; out = record { lock = shows.0; keeps = λ d there is. kept_by to.image shows.0.header shows.0.owner shows.0.there shows.0.has shows.1 d there is } }

  -- a request that doesn't wait is held up where its slot is still
  held_by : (r : Running R) → running_at slot c.session ≡ Some r → waits slot (track_of r c.session.lines) ≡ false → (who : Actor) → actor_at stands slot c ≡ who → Stays slot c.session.lines r who → IsHeldUp stands lost w c slot
  held_by r runs goes actor.Request at still = absurd (false≢true (sym goes ∙ still))
  held_by r runs goes (actor.Release x) at still =
      absurd (false≢true (sym (never_releases (slot_state slot c.slots).way (look_under_lock_at stands slot c.session) c.locks) ∙ ap is_release (sym acts ∙ at)))
  held_by r runs goes actor.Nobody at still =
      let out = nobody_out (slot_state slot c.slots).way refl (look_under_lock_at stands slot c.session) refl (sym acts ∙ at) in
      record { request = r; runs = runs; image = out.image; look = out.look; out = subst (IsLockedOut lost out.image w c) (sym at) out.out }
  held_by r runs goes (actor.Way x) at still =
      let out = way_out r runs x at (way_to x (slot_state slot c.slots).way refl (look_under_lock_at stands slot c.session) refl (sym acts ∙ at)) in
      record { request = r; runs = runs; image = out.image; look = out.look; out = subst (IsLockedOut lost out.image w c) (sym at) out.out }

module _ {R : Type 0} (stands : R → Standing) (lost : (number : ℕ) → Bool) (w : WorldView R) (world : IsSoundWorld stands w) (c : ClientView R) (sound : IsSoundClient stands c) (shown : WaysAreShown stands lost w c) (quiet : AllQuiet w) (mine : QuietsAsked c) (still : (slot : ℕ) → 1 ≤ slot → slot ≤ 64 → IsStill stands slot c) where
  not_zero : (slot : ℕ) → 1 ≤ slot → (slot == 0) ≡ false
  not_zero slot least = ne_eqb slot 0 (λ is. absurd (omega (arith, least, is)))

  running_held : (slot : ℕ) (r : Running R) → running_at slot c.session ≡ Some r → held_in slot c.session.slots ≡ Some (occupant.Running r)
  running_held slot r runs = runs_there (held_in slot c.session.slots) r runs

  stays : (slot : ℕ) (r : Running R) → running_at slot c.session ≡ Some r → (1 ≤ slot) × Stays slot c.session.lines r (actor_at stands slot c)
  stays slot r runs =
      let held = running_held slot r runs in
      let range = held_range stands c.session sound.session slot (occupant.Running r) held in
      (range.0, subst (StaysIn slot c.session.lines (actor_at stands slot c)) held (still slot range.0 range.1))

  first_held : (slot : ℕ) (r : Running R) → running_at slot c.session ≡ Some r → waits slot (track_of r c.session.lines) ≡ false → IsHeldUp stands lost w c slot
  first_held slot r runs goes =
      let it = stays slot r runs in
      held_by stands lost w world c sound shown quiet mine slot (not_zero slot it.0) r runs goes (actor_at stands slot c) refl it.1

  behind : (slot : ℕ) (p : ImageAt) (m : Member) → member_of slot (lines_of c.session.lines p.site p.image) ≡ Some m → IsStuckIn stands lost w c slot
  behind slot p m is = by (lines_of c.session.lines p.site p.image) refl is
    where
      by : (members : List Member) → lines_of c.session.lines p.site p.image ≡ members → member_of slot members ≡ Some m → IsStuckIn stands lost w c slot
      by [] line is = absurd (none-some m is)
      by (first ∷ members) line is =
          let found : member_of first.slot (lines_of c.session.lines p.site p.image) ≡ Some first
          = ap (member_of first.slot) line ∙ ap (λ b. cond b (Some first) (member_of first.slot members)) (eq-eqb first.slot first.slot refl) in
          let there = members_run_there stands c.session first.slot p.site p.image first sound.session found in
          inr (
            first.slot,
            record { image = p; member = m; there = ap (member_of slot) line ∙ is; leader = first; rest = members; line = line; leads = refl },
            first_held first.slot there.0 there.1 (first_goes stands c.session p.site p.image first members there.0 sound.session line there.1),
          )

  stuck_running : (slot : ℕ) (r : Running R) → running_at slot c.session ≡ Some r → IsStuckIn stands lost w c slot
  stuck_running slot r runs = by (sound.session.runs slot r runs).somewhere
    where
      by : IsSomewhere slot (track_of r c.session.lines) → IsStuckIn stands lost w c slot
      by (inl none) = inl (first_held slot r runs (alone_goes slot r.place r.turn [] (lines_of c.session.lines) none (sound.session.runs slot r runs).turns))
      by (inr (p, m, there)) = behind slot p m there.member

  pub stuck : (slot : ℕ) (o : Occupant R) → held_in slot c.session.slots ≡ Some o → IsStuckIn stands lost w c slot
  stuck slot (occupant.Refused line refusal) held =
      let range = held_range stands c.session sound.session slot (occupant.Refused line refusal) held in
      absurd (subst (StaysIn slot c.session.lines (actor_at stands slot c)) held (still slot range.0 range.1))
  stuck slot (occupant.Running r) held = stuck_running slot r (ap running_in held)
