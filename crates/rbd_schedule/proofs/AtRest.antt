-- Where all slots of a client are still, all of its images are at rest: no request is past its look
-- under the lock, and none has taken a lock.
use Rattle.std.proofs.Common.{◌≡◌, ℕ, ◌≤◌, ◌==◌, ◌&&◌, ◌||◌, cond, not, Bool, true, false, List, [], ◌∷◌, Option, Some, None, refl, sym, ap, ◌∙◌, subst, arith}
use Rattle.std.specs.List.{list_all}
use Rattle.std.proofs.lemmas.Bool.{eq-eqb, false≢true, ne_eqb, true≢false}
use Rattle.std.proofs.lemmas.Option.{same_Some}
use Rattle.rbd_client.specs.declared.actor.Actor.{Actor}
use Rattle.rbd_client.specs.declared.actor.Actor.TheVariants as actor
use Rattle.rbd_client.specs.declared.slot_state.Way.{Way}
use Rattle.rbd_client.specs.declared.slot_state.Way.TheVariants as way
use Rattle.rbd_client.specs.Actor.{actor_at, actor_on, due_release, release_actor}
use Rattle.rbd_client.specs.Client.{ClientView, slot_state}
use Rattle.rbd_client.specs.Sound.{IsSoundClient, IsWellOnWay}
use Rattle.rbd_machine.specs.declared.stage.Stage.{Stage}
use Rattle.rbd_machine.specs.declared.stage.Stage.TheVariants as stage
use Rattle.rbd_kinds.specs.declared.id.SiteId.{SiteId}
use Rattle.rbd_kinds.specs.declared.image_at.ImageAt.{ImageAt}
use Rattle.rbd_queue.specs.Line.{Member, IsFairLine, any_past, members_behind, is_past, member_of, none_past_behind}
use Rattle.rbd_queue.proofs.Passing.{in_order}
use Rattle.rbd_machine.specs.Plan.{Standing}
use Rattle.rbd_slots.specs.Advance.{track_of}
use Rattle.rbd_slots.specs.Lines.{lines_of}
use Rattle.rbd_slots.specs.Session.{IsAtLookUnderLock, held_in, look_under_lock_at, running_at}
use Rattle.rbd_slots.specs.Waits.{waits}
use Rattle.rbd_slots.specs.declared.running.Occupant.TheVariants as occupant
use Rattle.rbd_slots.specs.declared.running.Running.{Running}
use Rattle.rbd_slots.proofs.Consequences.{first_goes, members_run_there}
use Rattle.rbd_slots.proofs.LooksUnderLock.{at_look_under_lock}
use Rattle.rbd_slots.proofs.Sound.{held_range}
use Rattle.rbd_schedule.proofs.Going.{runs_there}
use Rattle.rbd_schedule.proofs.Idle.{IsStill, Stays, StaysIn}

is_waiting_past : (s : Stage) → s ≡ stage.Waiting → is_past s ≡ false
is_waiting_past s is = ap is_past is

none_is_past : (members : List Member) → list_all (λ (m : Member). not (is_past m.stage)) members ≡ true → any_past members ≡ false
none_is_past [] all = refl
none_is_past (m ∷ members) all = by (is_past m.stage) all (none_is_past members)
  where
    by : (b : Bool) → (not b && list_all (λ (m : Member). not (is_past m.stage)) members) ≡ true → (list_all (λ (m : Member). not (is_past m.stage)) members ≡ true → any_past members ≡ false) → (b || any_past members) ≡ false
    by true all rest = absurd (false≢true all)
    by false all rest = rest all

abbrev is_request : Actor → Bool
is_request actor.Request = true
is_request _ = false

not_first : (slot : ℕ) → 1 ≤ slot → (slot == 0) ≡ false
not_first slot least = ne_eqb slot 0 (λ is. absurd (omega (arith, least, is)))

module _ {R : Type 0} (stands : R → Standing) (c : ClientView R) (sound : IsSoundClient stands c) (still : (slot : ℕ) → 1 ≤ slot → slot ≤ 64 → IsStill stands slot c) where
  acts : (slot : ℕ) → 1 ≤ slot → actor_at stands slot c ≡ actor_on (slot_state slot c.slots).way (look_under_lock_at stands slot c.session) c.locks
  acts slot least = ap (λ b. cond b (release_actor c.release (due_release c)) (actor_on (slot_state slot c.slots).way (look_under_lock_at stands slot c.session) c.locks)) (not_first slot least)

  -- a request that doesn't wait doesn't act itself
  acts_no_more : (slot : ℕ) (r : Running R) → running_at slot c.session ≡ Some r → waits slot (track_of r c.session.lines) ≡ false → (1 ≤ slot) × (is_request (actor_at stands slot c) ≡ false)
  acts_no_more slot r runs goes =
      let held = runs_there (held_in slot c.session.slots) r runs in
      let range = held_range stands c.session sound.session slot (occupant.Running r) held in
      (range.0, by (actor_at stands slot c) (subst (StaysIn slot c.session.lines (actor_at stands slot c)) held (still slot range.0 range.1)))
    where
      by : (who : Actor) → Stays slot c.session.lines r who → is_request who ≡ false
      by actor.Request stays = absurd (false≢true (sym goes ∙ stays))
      by actor.Nobody stays = refl
      by (actor.Way a) stays = refl
      by (actor.Release x) stays = refl

  -- so it stands at its look
  looks : (slot : ℕ) → 1 ≤ slot → is_request (actor_at stands slot c) ≡ false → (p : ImageAt) × (look_under_lock_at stands slot c.session ≡ Some p)
  looks slot least none = by (slot_state slot c.slots).way refl (look_under_lock_at stands slot c.session) refl (sym (ap is_request (acts slot least)) ∙ none)
    where
      by : (y : Way) → (slot_state slot c.slots).way ≡ y → (look : Option ImageAt) → look_under_lock_at stands slot c.session ≡ look → is_request (actor_on y look c.locks) ≡ false → (p : ImageAt) × (look_under_lock_at stands slot c.session ≡ Some p)
      by (way.On a) on look at none = (record { site = a.site; image = a.image }, (subst (λ y. IsWellOnWay stands slot y c.session c.locks) on (sound.ways slot)).at_look)
      by (way.Taken p) on look at none = absurd (true≢false none)
      by way.Unbegun on None at none = absurd (true≢false none)
      by way.Unbegun on (Some p) at none = (p, at)

  -- a member that stands at its look waits for it
  waits_there : (site : SiteId) (image : ℕ) (m : Member) → member_of m.slot (lines_of c.session.lines site image) ≡ Some m → (r : Running R) → running_at m.slot c.session ≡ Some r
      → r.place ≡ Some (record { site = site; image = image }) → (p : ImageAt) → IsAtLookUnderLock m.slot p c.session → m.stage ≡ stage.Waiting
  waits_there site image m found r runs place p look =
      let one : r ≡ look.running = same_Some r look.running (sym runs ∙ look.runs) in
      let here : ◌≡◌ {A = ImageAt} (record { site = site; image = image }) p
      = same_Some (record { site = site; image = image }) p (sym place ∙ ap (λ (x : Running R). x.place) one ∙ look.place) in
      let same : m ≡ look.member = same_Some m look.member (sym found ∙ subst (λ (q : ImageAt). member_of m.slot (lines_of c.session.lines q.site q.image) ≡ Some look.member) (sym here) look.found) in
      ap (λ (x : Member). x.stage) same ∙ look.awaits

  -- who is first in a line does
  first_waits : (site : SiteId) (image : ℕ) (m : Member) (members : List Member) → lines_of c.session.lines site image ≡ m ∷ members → m.stage ≡ stage.Waiting
  first_waits site image m members line = by (members_run_there stands c.session m.slot site image m sound.session found)
    where
      found : member_of m.slot (lines_of c.session.lines site image) ≡ Some m
      found = ap (member_of m.slot) line ∙ ap (λ b. cond b (Some m) (member_of m.slot members)) (eq-eqb m.slot m.slot refl)

      by : (r : Running R) × (running_at m.slot c.session ≡ Some r) × (r.place ≡ Some (record { site = site; image = image })) → m.stage ≡ stage.Waiting
      by (r, runs, place) =
          let no_more = acts_no_more m.slot r runs (first_goes stands c.session site image m members r sound.session line runs) in
          let up = looks m.slot no_more.0 no_more.1 in
          waits_there site image m found r runs place up.0 (at_look_under_lock stands c.session m.slot up.0 up.1)

  -- so nobody in it is past its look
  pub none_past : (site : SiteId) (image : ℕ) → any_past (lines_of c.session.lines site image) ≡ false
  none_past site image = by (lines_of c.session.lines site image) refl
    where
      by : (members : List Member) → lines_of c.session.lines site image ≡ members → any_past members ≡ false
      by [] line = refl
      by (m ∷ members) line =
          let first : is_past m.stage ≡ false = is_waiting_past m.stage (first_waits site image m members line) in
          let itself : member_of m.slot (m ∷ members) ≡ Some m = ap (λ b. cond b (Some m) (member_of m.slot members)) (eq-eqb m.slot m.slot refl) in
          let others : none_past_behind m.slot (m ∷ members) ≡ true = in_order (m ∷ members) m (subst (λ ms. IsFairLine ms) line (sound.session.fair site image)) itself first in
          let rest : members_behind m.slot (m ∷ members) ≡ members = ap (λ b. cond b members (members_behind m.slot members)) (eq-eqb m.slot m.slot refl) in
          ap (λ b. b || any_past members) first ∙ none_is_past members (sym (ap (list_all (λ (x : Member). not (is_past x.stage))) rest) ∙ others)

  -- nor has one taken a lock
  pub none_taken : (slot : ℕ) (p : ImageAt) → (slot_state slot c.slots).way ≡ way.Taken p → ⊥
  none_taken slot p taken =
      let well = subst (λ y. IsWellOnWay stands slot y c.session c.locks) taken (sound.ways slot) in
      let look = at_look_under_lock stands c.session slot (record { site = p.site; image = p.image }) well.0.at_look in
      let no_more = acts_no_more slot look.running look.runs look.goes in
      true≢false (sym (ap is_request (acts slot no_more.0 ∙ ap (λ y. actor_on y (look_under_lock_at stands slot c.session) c.locks) taken)) ∙ no_more.1)
