-- What an answer on the way to a lock, or to a release, leaves of a client.
use Rattle.std.proofs.Common.{◌≡◌, ◌≢◌, ℕ, ◌==◌, ◌||◌, not, cond, Bool, true, false, List, [], ◌∷◌, length, Option, Some, None, IsSome, refl, sym, ap, ◌∙◌, subst, true≢false}
use Rattle.std.proofs.lemmas.Bool.{and_parts}
use Rattle.std.specs.List.{find}
use Rattle.std.specs.Option.{is_some}
use Rattle.std.proofs.lemmas.Option.{none-some, same_Some}
use Rattle.rbd_client.specs.declared.actor.Actor.{Actor}
use Rattle.rbd_client.specs.declared.actor.Actor.TheVariants as actor
use Rattle.rbd_client.specs.declared.slot_state.SlotState.{SlotState}
use Rattle.rbd_client.specs.declared.slot_state.Way.{Way}
use Rattle.rbd_client.specs.declared.slot_state.Way.TheVariants as way
use Rattle.rbd_client.specs.Actor.{actor_at, actor_at_look, actor_by, actor_on, due_release, is_at_rest, may_release, release_actor}
use Rattle.rbd_client.specs.Client.{ClientView, blank_slot, slot_state}
use Rattle.rbd_client.specs.Feeding.{comings_of, release_once_fed, state_on_way, CountsAll, IsAtRest, TakesTheLock, WayComesTo}
use Rattle.rbd_client.specs.Sound.{IsOwned, IsSoundClient, IsTelling, IsWellOnWay, WaitsForLook}
use Rattle.rbd_client.proofs.Kept.{sound_behind, LeavesSlots}
use Rattle.rbd_client.proofs.Looks.{looks_there}
use Rattle.rbd_commands.specs.declared.quiescing.Quiescing.TheVariants as quiescing
use Rattle.rbd_kinds.specs.declared.answer.Answer.TheVariants as answer
use Rattle.rbd_kinds.specs.declared.header_op.HeaderOp.TheVariants as header
use Rattle.rbd_kinds.specs.declared.id.SiteId.{SiteId}
use Rattle.rbd_kinds.specs.declared.machine.Fed.{Fed}
use Rattle.rbd_kinds.specs.declared.machine.Fed.TheVariants as fed
use Rattle.rbd_kinds.specs.declared.reply.Reply.{Reply}
use Rattle.rbd_queue.specs.Line.{member_of}
use Rattle.rbd_kinds.specs.declared.image_at.ImageAt.{ImageAt}
use Rattle.rbd_kinds.proofs.Images.{at_itself}
use Rattle.rbd_lock.specs.declared.lock_state.LockState.{LockState}
use Rattle.rbd_lock.specs.Comings.{after_all}
use Rattle.rbd_lock.specs.Locks.{LocksView, IsSoundLocks, lock_state_at}
use Rattle.rbd_lock.specs.States.{answered}
use Rattle.rbd_machine.specs.Plan.{Standing}
use Rattle.rbd_lock.specs.Acquire.{begun_way, op_at_stage, op_of}
use Rattle.rbd_lock.specs.Release.{release_op, release_op_at, release_behind}
use Rattle.rbd_lock.specs.declared.acquire.Acquire.{Acquire}
use Rattle.rbd_lock.specs.declared.acquire.Stage.{Stage}
use Rattle.rbd_lock.specs.declared.acquire.Stage.TheVariants as stage
use Rattle.rbd_lock.specs.declared.release.Release.{Release}
use Rattle.rbd_lock.specs.declared.release.Stage.{Stage as ReleaseStage}
use Rattle.rbd_lock.specs.declared.release.Stage.TheVariants as telling
use Rattle.rbd_slots.specs.declared.running.Running.{Running}
use Rattle.rbd_slots.specs.Advance.{track_of}
use Rattle.rbd_slots.specs.Lines.{lines_of}
use Rattle.rbd_slots.specs.Track.{ended_by}
use Rattle.rbd_slots.specs.Session.{SessionView, IsSoundSession, held_in, look_under_lock_at, running_at, running_in}
use Rattle.rbd_slots.proofs.LooksUnderLock.{at_look_under_lock}
use Rattle.rbd_slots.proofs.LooksUnderLockStay.{stays_behind_end}

-- ---- what a way comes to is what is kept of its slot

pub way_after : (a : Acquire) (f : Fed) (result : Option Reply) (w : Way) (old new : SlotState) → new ≡ state_on_way (is_some result) w old → WayComesTo a f result w
    → WayComesTo a f result new.way × (new ≡ state_on_way (is_some result) new.way old)
way_after a f None w old new is comes =
    let same : w ≡ new.way = sym (ap (λ (s : SlotState). s.way) is) in
    (subst (WayComesTo a f None) same comes, is ∙ ap (λ w. state_on_way false w old) same)
way_after a f (Some r) w old new is comes = ((ap (λ (s : SlotState). s.way) is, comes.1), is)

-- ---- whose way it is

-- the way that acts, or another one where none does
abbrev pub way_or : Acquire → Actor → Acquire
way_or a (actor.Way b) = b
way_or a x = a

abbrev pub is_way : Actor → Bool
is_way (actor.Way a) = true
is_way x = false

same_way : (a b : Acquire) → actor.Way a ≡ actor.Way b → a ≡ b
same_way a b is = ap (way_or a) is

abbrev pub is_telling : ReleaseStage → Bool
is_telling telling.Telling = true
is_telling x = false

abbrev pub is_release : Actor → Bool
is_release (actor.Release q) = true
is_release x = false

abbrev pub is_taking : Stage → Bool
is_taking stage.Taking = true
is_taking x = false

pub releases_no_way : (r : Option Release) (due : Option ImageAt) → is_way (release_actor r due) ≡ false
releases_no_way (Some r) due = refl
releases_no_way None (Some p) = refl
releases_no_way None None = refl

-- a request's own acting, and its way, is no release
look_no_release : (look : Option ImageAt) (locks : LocksView) → is_release (actor_at_look look locks) ≡ false
look_no_release None locks = refl
look_no_release (Some p) locks = go ((lock_state_at p.site p.image locks).quiesced || (lock_state_at p.site p.image locks).asked) (lock_state_at p.site p.image locks).owned
  where
    go : (held owned : Bool) → is_release (cond held actor.Nobody (cond owned actor.Request (actor.Way (begun_way p.site p.image (lock_state_at p.site p.image locks).watched)))) ≡ false
    go true owned = refl
    go false true = refl
    go false false = refl

pub on_way_no_release : (w : Way) (look : Option ImageAt) (locks : LocksView) → is_release (actor_on w look locks) ≡ false
on_way_no_release way.Unbegun look locks = look_no_release look locks
on_way_no_release (way.On a) look locks = refl
on_way_no_release (way.Taken p) look locks = refl

-- a way that begins is to the image looked at
begins_there : (s : LockState) (p : ImageAt) (a : Acquire) → actor_by s p.site p.image ≡ actor.Way a → (p.site ≡ a.site) × (p.image ≡ a.image)
begins_there s p a = go (s.quiesced || s.asked) s.owned
  where
    go : (held o : Bool) → cond held actor.Nobody (cond o actor.Request (actor.Way (begun_way p.site p.image s.watched))) ≡ actor.Way a → (p.site ≡ a.site) × (p.image ≡ a.image)
    go true o is = absurd (true≢false (sym (ap is_way is)))
    go false true is = absurd (true≢false (sym (ap is_way is)))
    go false false is =
        let same = same_way (begun_way p.site p.image s.watched) a is in
        (ap (λ (x : Acquire). x.site) same, ap (λ (x : Acquire). x.image) same)

module _ {R : Type 0} (stands : R → Standing) where
  looks_and_waits : (slot : ℕ) (p : ImageAt) (s : SessionView R) → look_under_lock_at stands slot s ≡ Some p → WaitsForLook stands slot p.site p.image s
  looks_and_waits slot p s at =
      let look = at_look_under_lock stands s slot p at in
      record {
        request = look.running;
        runs = look.runs;
        place = look.place;
        wants = looks_there stands slot s p look.running at look.runs;
        member = look.member;
        found = look.found;
        waits = look.awaits;
        at_look = at;
      }

  -- the request whose way acts waits for its look under the lock
  pub way_waits : (slot : ℕ) (c : ClientView R) (a : Acquire) → IsSoundClient stands c → actor_at stands slot c ≡ actor.Way a → WaitsForLook stands slot a.site a.image c.session
  way_waits slot c a sound acts = by (slot == 0) acts
    where
      looking : (look : Option ImageAt) → look_under_lock_at stands slot c.session ≡ look → actor_at_look look c.locks ≡ actor.Way a → WaitsForLook stands slot a.site a.image c.session
      looking None at is = absurd (true≢false (sym (ap is_way is)))
      looking (Some p) at is =
          let there = begins_there (lock_state_at p.site p.image c.locks) p a is in
          subst (λ i. WaitsForLook stands slot a.site i c.session) there.1
          (subst (λ s. WaitsForLook stands slot s p.image c.session) there.0 (looks_and_waits slot p c.session at))

      on : (w : Way) → IsWellOnWay stands slot w c.session c.locks → actor_on w (look_under_lock_at stands slot c.session) c.locks ≡ actor.Way a → WaitsForLook stands slot a.site a.image c.session
      on way.Unbegun well is = looking (look_under_lock_at stands slot c.session) refl is
      on (way.On b) well is = subst (λ (x : Acquire). WaitsForLook stands slot x.site x.image c.session) (same_way b a is) well
      on (way.Taken p) well is = absurd (true≢false (sym (ap is_way is)))

      by : (b : Bool) → cond b (release_actor c.release (due_release c)) (actor_on (slot_state slot c.slots).way (look_under_lock_at stands slot c.session) c.locks) ≡ actor.Way a
          → WaitsForLook stands slot a.site a.image c.session
      by true is = absurd (true≢false (sym (ap is_way is) ∙ releases_no_way c.release (due_release c)))
      by false is = on (slot_state slot c.slots).way (sound.ways slot) is

  -- ---- its operations end no lock

  pub way_rests : (site : SiteId) (a : Acquire) (c : ClientView R) → IsAtRest site (op_of a) c
  way_rests site a c = go a.stage
    where
      go : (s : Stage) → IsAtRest site (op_at_stage s a.image) c
      go stage.Watching = tt
      go stage.Taking = tt
      go (stage.Looking owner) = tt
      go stage.Asking = tt
      go (stage.Fencing owner) = tt
      go (stage.Breaking owner) = tt

  taken_owns : (a : Acquire) (f : Fed) (p : ImageAt) (old new : LocksView) → TakesTheLock a f p → CountsAll (comings_of quiescing.Leaves None a.site (op_of a) f) old new → IsOwned p.site p.image new
  taken_owns a f p old new takes counts =
      subst (λ i. IsOwned p.site i new) (sym takes.image)
      (subst (λ s. IsOwned s a.image new) (sym takes.site)
      (ap (λ (s : LockState). s.owned) (counts a.site a.image ∙ ap (λ x. after_all (comings_of quiescing.Leaves None a.site (op_of a) x) a.site a.image (lock_state_at a.site a.image old)) takes.done)
      ∙ taking a.stage takes.asked))
    where
      taking : (s : Stage) → s ≡ stage.Taking
          → (after_all (comings_of quiescing.Leaves None a.site (op_at_stage s a.image) (fed.Answer answer.Done)) a.site a.image (lock_state_at a.site a.image old)).owned ≡ true
      taking stage.Watching is = absurd (true≢false (sym (ap is_taking is)))
      taking stage.Taking is =
          ap (λ b. (cond b (answered header.LockTake answer.Done (lock_state_at a.site a.image old)) (lock_state_at a.site a.image old)).owned) (at_itself a.site a.image)
      taking (stage.Looking owner) is = absurd (true≢false (sym (ap is_taking is)))
      taking stage.Asking is = absurd (true≢false (sym (ap is_taking is)))
      taking (stage.Fencing owner) is = absurd (true≢false (sym (ap is_taking is)))
      taking (stage.Breaking owner) is = absurd (true≢false (sym (ap is_taking is)))

  -- ---- what is left of a client behind an answer on a way

  pub way_sound : (slot : ℕ) (a : Acquire) (f : Fed) (result : Option Reply) (old new : ClientView R)
      → IsSoundClient stands old → IsSoundSession stands new.session → IsSoundLocks new.locks → actor_at stands slot old ≡ actor.Way a
      → WayComesTo a f result (slot_state slot new.slots).way
      → (is_some result ≡ false → new.session ≡ old.session) → (is_some result ≡ true → IsSome (running_at slot old.session) → held_in slot new.session.slots ≡ None)
      → LeavesSlots stands slot old new → length new.slots ≡ 65 → new.release ≡ old.release
      → CountsAll (comings_of quiescing.Leaves None a.site (op_of a) f) old.locks new.locks
      → slot_state slot new.slots ≡ state_on_way (is_some result) (slot_state slot new.slots).way (slot_state slot old.slots)
      → (is_some result ≡ true → (r : Running R) → running_at slot old.session ≡ Some r → lines_of new.session.lines ≡ (ended_by slot (track_of r old.session.lines)).lines)
      → IsSoundClient stands new
  way_sound slot a f result old new sound session locks acts comes stays gone leaves slots release counts state left =
      sound_behind stands slot a.site (op_of a) f quiescing.Leaves None old new sound session locks leaves slots (subst IsTelling (sym release) sound.telling) counts (way_rests a.site a old)
      (free result stays state) (on_way result (slot_state slot new.slots).way comes stays) (looks result stays left)
    where
      waiting : WaitsForLook stands slot a.site a.image old.session
      waiting = way_waits slot old a sound acts

      free : (r : Option Reply) → (is_some r ≡ false → new.session ≡ old.session) → slot_state slot new.slots ≡ state_on_way (is_some r) (slot_state slot new.slots).way (slot_state slot old.slots)
          → held_in slot new.session.slots ≡ None → slot_state slot new.slots ≡ blank_slot
      free (Some r) stays state none = state
      free None stays state none =
          absurd (none-some waiting.request (
          sym (ap running_in (ap (λ (s : SessionView R). held_in slot s.slots) (sym (stays refl)) ∙ none)) ∙ waiting.runs))

      looks : (r : Option Reply) → (is_some r ≡ false → new.session ≡ old.session)
          → (is_some r ≡ true → (r : Running R) → running_at slot old.session ≡ Some r → lines_of new.session.lines ≡ (ended_by slot (track_of r old.session.lines)).lines)
          → (k : ℕ) → k ≢ slot → (p : ImageAt) → look_under_lock_at stands k old.session ≡ Some p → look_under_lock_at stands k new.session ≡ Some p
      looks None stays left k differ p at = ap (look_under_lock_at stands k) (stays refl) ∙ at
      looks (Some x) stays left k differ p at =
          stays_behind_end stands old.session new.session k slot p sound.session differ (leaves.held k differ) at waiting.request (left refl waiting.request waiting.runs)

      kept : new.session ≡ old.session → (site : SiteId) (image : ℕ) → WaitsForLook stands slot site image old.session → WaitsForLook stands slot site image new.session
      kept same site image w = subst (WaitsForLook stands slot site image) (sym same) w

      on_way : (r : Option Reply) (w : Way) → WayComesTo a f r w → (is_some r ≡ false → new.session ≡ old.session) → IsWellOnWay stands slot w new.session new.locks
      on_way None (way.On b) goes stays =
          kept (stays refl) b.site b.image
          (subst (λ i. WaitsForLook stands slot b.site i old.session) (sym goes.image) (subst (λ s. WaitsForLook stands slot s a.image old.session) (sym goes.site) waiting))
      on_way None (way.Taken p) takes stays = (
        kept (stays refl) p.site p.image
            (subst (λ i. WaitsForLook stands slot p.site i old.session) (sym takes.image) (subst (λ s. WaitsForLook stands slot s a.image old.session) (sym takes.site) waiting)),
        taken_owns a f p old.locks new.locks takes counts,
      )
      on_way None way.Unbegun goes stays = tt
      on_way (Some r) w goes stays = subst (λ w. IsWellOnWay stands slot w new.session new.locks) (sym goes.0) tt

  -- ---- a release

  pub found_may : (f : ImageAt → Bool) (ps : List ImageAt) (p : ImageAt) → find f ps ≡ Some p → f p ≡ true
  found_may f [] p is = absurd (none-some p is)
  found_may f (q ∷ ps) p is = go (f q) refl is (found_may f ps p)
    where
      go : (b : Bool) → f q ≡ b → cond b (Some q) (find f ps) ≡ Some p → (find f ps ≡ Some p → f p ≡ true) → f p ≡ true
      go true may is rest = ap f (sym (same_Some q p is)) ∙ may
      go false may is rest = rest is

  -- a release acts at slot 0 alone
  pub released_at_zero : (c : ClientView R) (slot : ℕ) (r : Release) → actor_at stands slot c ≡ actor.Release r → actor_at stands 0 c ≡ actor.Release r
  released_at_zero c slot r acts = go (slot == 0) acts
    where
      go : (b : Bool) → cond b (release_actor c.release (due_release c)) (actor_on (slot_state slot c.slots).way (look_under_lock_at stands slot c.session) c.locks) ≡ actor.Release r
          → release_actor c.release (due_release c) ≡ actor.Release r
      go true is = is
      go false is = absurd (true≢false (sym (ap is_release is) ∙ on_way_no_release (slot_state slot c.slots).way (look_under_lock_at stands slot c.session) c.locks))

  abbrev release_or : Release → Actor → Release
  release_or r (actor.Release q) = q
  release_or r x = r

  -- a release that acts drops a lock only at rest
  pub release_rests : (c : ClientView R) (r : Release) → IsSoundClient stands c → actor_at stands 0 c ≡ actor.Release r → IsAtRest r.site (release_op r) c
  release_rests c r sound acts = by c.release (due_release c) refl sound.telling acts
    where
      told : (q : Release) → q.stage ≡ telling.Telling → IsAtRest q.site (release_op q) c
      told q is = go q.stage is
        where
          go : (s : ReleaseStage) → s ≡ telling.Telling → IsAtRest q.site (release_op_at s q.image) c
          go telling.Dropping is = absurd (true≢false (sym (ap is_telling is)))
          go telling.Telling is = tt

      by : (o : Option Release) (due : Option ImageAt) → due_release c ≡ due → IsTelling o → release_actor o due ≡ actor.Release r → IsAtRest r.site (release_op r) c
      by (Some q) due at tells is = subst (λ (x : Release). IsAtRest x.site (release_op x) c) (ap (release_or q) is) (told q tells)
      by None (Some p) at tells is =
          subst (λ (x : Release). IsAtRest x.site (release_op x) c) (ap (release_or r) is)
          ((and_parts (not (lock_state_at p.site p.image c.locks).quiesced) (is_at_rest p.site p.image c) (found_may (may_release c) c.locks.asked p at)).1)
      by None None at tells is = absurd (true≢false (sym (ap is_release is)))

  left_telling : (r : Release) (f : Fed) → IsTelling (release_once_fed r f)
  left_telling r fed.Passed = tt
  left_telling r (fed.Answer a) = go r.stage a
    where
      go : (s : ReleaseStage) (a : _) → IsTelling (release_behind s r.site r.image a)
      go telling.Dropping answer.Done = refl
      go telling.Dropping a = tt
      go telling.Telling a = tt

  pub release_sound : (r : Release) (f : Fed) (old new : ClientView R) → IsSoundClient stands old → IsSoundSession stands new.session → IsSoundLocks new.locks → actor_at stands 0 old ≡ actor.Release r → new.session ≡ old.session → new.slots ≡ old.slots
      → new.release ≡ release_once_fed r f → CountsAll (comings_of quiescing.Leaves None r.site (release_op r) f) old.locks new.locks → IsSoundClient stands new
  release_sound r f old new sound session locks acts same slots release counts =
      sound_behind stands 0 r.site (release_op r) f quiescing.Leaves None old new sound session locks
      (record {
        held = λ k differ. ap (λ (s : SessionView R). held_in k s.slots) same;
        states = λ k differ. ap (slot_state k) slots;
        lines = λ k differ site image. ap (λ (s : SessionView R). member_of k (lines_of s.lines site image)) same;
      })
      (ap length slots ∙ sound.slots) (subst IsTelling (sym release) (left_telling r f)) counts (release_rests old r sound acts)
      (λ none. ap (slot_state 0) slots ∙ sound.free 0 (ap (λ (s : SessionView R). held_in 0 s.slots) (sym same) ∙ none))
      (subst (λ w. IsWellOnWay stands 0 w new.session new.locks) (sym (ap (λ xs. (slot_state 0 xs).way) slots ∙ none_at_first)) tt)
      (λ k differ p at. ap (look_under_lock_at stands k) same ∙ at)
    where
      none_at_first : (slot_state 0 old.slots).way ≡ way.Unbegun
      none_at_first = ap (λ (s : SlotState). s.way) (sound.free 0 sound.session.zero)
