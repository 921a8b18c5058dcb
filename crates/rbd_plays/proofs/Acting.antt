-- Who acts at a slot of a tame client, what a newcomer is, and which locks still count.
use Rattle.std.proofs.Common.{◌≡◌, ℕ, ◌==◌, ◌||◌, ◌&&◌, ◌⊎◌, inl, inr, cond, Bool, true, false, Option, Some, None, refl, sym, ap, ◌∙◌, subst}
use Rattle.std.proofs.lemmas.Bool.{true≢false}
use Rattle.std.proofs.lemmas.Option.{none-some, same_Some}
use Rattle.rbd_client.specs.declared.actor.Actor.{Actor}
use Rattle.rbd_client.specs.declared.actor.Actor.TheVariants as actor
use Rattle.rbd_client.specs.Actor.{actor_at, actor_by, actor_on, due_release, release_actor}
use Rattle.rbd_client.specs.Client.{ClientView, newcomer, slot_state}
use Rattle.rbd_client.specs.Feeding.{ReleaseIsFed, RequestIsFed, WayIsFed}
use Rattle.rbd_client.specs.declared.slot_state.SlotState.{SlotState}
use Rattle.rbd_client.specs.declared.slot_state.Way.{Way}
use Rattle.rbd_client.specs.declared.slot_state.Way.TheVariants as way
use Rattle.rbd_commands.specs.declared.command.Command.{Command}
use Rattle.rbd_commands.specs.declared.command.Command.TheVariants as command
use Rattle.rbd_commands.specs.declared.quiescing.Quiescing.{Quiescing}
use Rattle.rbd_commands.specs.declared.quiescing.Quiescing.TheVariants as quiescing
use Rattle.rbd_kinds.specs.declared.answer.Answer.{Answer}
use Rattle.rbd_kinds.specs.declared.id.SiteId.{SiteId}
use Rattle.rbd_kinds.specs.declared.image_at.ImageAt.{ImageAt}
use Rattle.rbd_kinds.specs.declared.layout.Extent.{Extent}
use Rattle.rbd_kinds.specs.declared.machine.Fed.TheVariants as fed
use Rattle.rbd_kinds.specs.declared.operation.Op.{Op}
use Rattle.rbd_kinds.specs.declared.reply.Reply.{Reply}
use Rattle.rbd_knowledge.specs.Calm.{IsCalmRequest}
use Rattle.rbd_lock.specs.declared.lock_state.LockState.{LockState}
use Rattle.rbd_lock.specs.Locks.{lock_state_at}
use Rattle.rbd_machine.specs.Plan.{Standing}
use Rattle.rbd_machine.specs.declared.seat.Seat.{Seat}
use Rattle.rbd_lock.specs.Acquire.{begun_way}
use Rattle.rbd_lock.specs.declared.acquire.Acquire.{Acquire}
use Rattle.rbd_lock.specs.declared.release.Release.{Release}
use Rattle.rbd_catalog.proofs.FollowsAll.{command_follows}
use Rattle.rbd_catalog.specs.Profile.{drops_a_lock, has_none_of, joins_a_line, looks_at_a_header, profile}
use Rattle.rbd_catalog.specs.Plans.{IsPlanFor}
use Rattle.rbd_slots.specs.Session.{BeginsAt, IsNewcomer, look_under_lock_at, running_at, running_in}
use Rattle.rbd_slots.specs.declared.running.Occupant.{Occupant}
use Rattle.rbd_slots.specs.declared.running.Occupant.TheVariants as occupant
use Rattle.rbd_slots.specs.declared.running.Running.{Running}
use Rattle.rbd_plays.specs.OneChanger.{takes_the_lock}
use Rattle.rbd_knowledge.proofs.Calmly.{look_is_calm}
use Rattle.rbd_catalog.proofs.Asking.{looks_at_none, takes_no_lock}
use Rattle.rbd_catalog.specs.Asking.{DoesOnly, IsNoLook}
use Rattle.rbd_plays.proofs.Counts.{IsNoQuiesce, fed_owned, gives_up_at}
use Rattle.rbd_plays.proofs.Tame.{ComesToNoLook, IsTame, IsTameSlot, LooksUnlessItChanges, MayBeOnWay, no_look_under_lock, unbegun_may}
use Rattle.rbd_plays.proofs.Ways.{begun_early, is_early}

-- ---- who acts

abbrev is_nobody : Actor → Bool
is_nobody actor.Nobody = true
is_nobody who = false

abbrev way_of : Actor → Option Acquire
way_of (actor.Way a) = Some a
way_of who = None

-- It is a change that acts so, which hasn't been told that another one has the lock.
abbrev pub IsEarlyWay : (changes : Bool) → Acquire → Type 0
IsEarlyWay changes a = (changes ≡ true) × (is_early a.stage ≡ true)

release_is_no_way : (r : Option Release) (due : Option ImageAt) → way_of (release_actor r due) ≡ None
release_is_no_way (Some r) due = refl
release_is_no_way None (Some p) = refl
release_is_no_way None None = refl

module _ {R : Type 0} (stands : R → Standing) (changes : Bool) (c : ClientView R) (tame : IsTame stands changes c) (slot : ℕ) where
  -- only a change stands at its look under the lock
  changes_there : (p : ImageAt) → look_under_lock_at stands slot c.session ≡ Some p → changes ≡ true
  changes_there p at = by changes refl
    where
      by : (b : Bool) → changes ≡ b → b ≡ true
      by true is = refl
      by false is =
          absurd (none-some p (sym (no_look_under_lock stands slot c.session (λ r runs. subst (λ b. LooksUnlessItChanges stands b r) is (tame.slots slot r runs).looks)) ∙ at))

  at_look : (p : ImageAt) (a : Acquire) → changes ≡ true → way_of (actor_by (lock_state_at p.site p.image c.locks) p.site p.image) ≡ Some a → IsEarlyWay changes a
  at_look p a does is = by (lock_state_at p.site p.image c.locks) is
    where
      go : (b o watched : Bool) → way_of (cond b actor.Nobody (cond o actor.Request (actor.Way (begun_way p.site p.image watched)))) ≡ Some a → IsEarlyWay changes a
      go true o watched is = absurd (none-some a is)
      go false true watched is = absurd (none-some a is)
      go false false watched is = (does, sym (ap (λ (x : Acquire). is_early x.stage) (same_Some (begun_way p.site p.image watched) a is)) ∙ begun_early watched)

      by : (s : LockState) → way_of (actor_by s p.site p.image) ≡ Some a → IsEarlyWay changes a
      by s is = go (s.quiesced || s.asked) s.owned s.watched is

  on_way : (b : Acquire) (a : Acquire) (changes : Bool) → MayBeOnWay changes (way.On b) → Some b ≡ Some a → IsEarlyWay changes a
  on_way b a true may is = (refl, sym (ap (λ (x : Acquire). is_early x.stage) (same_Some b a is)) ∙ may)
  on_way b a false may is = absurd may

  acts_early : (w : Way) (look : Option ImageAt) (a : Acquire) → look_under_lock_at stands slot c.session ≡ look → MayBeOnWay changes w → way_of (actor_on w look c.locks) ≡ Some a → IsEarlyWay changes a
  acts_early way.Unbegun None a at may is = absurd (none-some a is)
  acts_early way.Unbegun (Some p) a at may is = at_look p a (changes_there p at) is
  acts_early (way.On b) look a at may is = on_way b a changes may is
  acts_early (way.Taken p) look a at may is = absurd (none-some a is)

  pub ways_are_early : (r : Running R) (a : Acquire) → running_at slot c.session ≡ Some r → actor_at stands slot c ≡ actor.Way a → IsEarlyWay changes a
  ways_are_early r a runs acts = by (slot == 0) (ap way_of acts)
    where
      by : (b : Bool) → way_of (cond b (release_actor c.release (due_release c)) (actor_on (slot_state slot c.slots).way (look_under_lock_at stands slot c.session) c.locks)) ≡ Some a → IsEarlyWay changes a
      by true is = absurd (none-some a (sym (release_is_no_way c.release (due_release c)) ∙ is))
      by false is = acts_early (slot_state slot c.slots).way (look_under_lock_at stands slot c.session) a refl (tame.slots slot r runs).way is

  -- ---- which locks still count

  module _ (d : ClientView R) (there : SiteId) (image : ℕ) where
    pub owned_fed : (site : SiteId) (o : Op) (a : Answer) (result : Option Reply) (r : Running R) → running_at slot c.session ≡ Some r → RequestIsFed stands slot site o (fed.Answer a) result c d
        → gives_up_at site o there image ≡ false → (lock_state_at there image c.locks).owned ≡ true → (lock_state_at there image d.locks).owned ≡ true
    owned_fed site o a result r runs goes keeps is =
        ap (λ (s : LockState). s.owned) (goes.counts there image)
        ∙ fed_owned (slot_state slot c.slots).quiescing (look_under_lock_at stands slot c.session) site o a there image (lock_state_at there image c.locks) (tame.slots slot r runs).quiescing keeps is

    pub owned_on_way : (site : SiteId) (o : Op) (a : Answer) (result : Option Reply) (x : Acquire) → WayIsFed x slot site o (fed.Answer a) result c d
        → gives_up_at site o there image ≡ false → (lock_state_at there image c.locks).owned ≡ true → (lock_state_at there image d.locks).owned ≡ true
    owned_on_way site o a result x goes keeps is =
        ap (λ (s : LockState). s.owned) (goes.counts there image) ∙ fed_owned quiescing.Leaves None site o a there image (lock_state_at there image c.locks) tt keeps is

    pub owned_released : (site : SiteId) (o : Op) (a : Answer) (result : Option Reply) (x : Release) → ReleaseIsFed x site o (fed.Answer a) result c d
        → gives_up_at site o there image ≡ false → (lock_state_at there image c.locks).owned ≡ true → (lock_state_at there image d.locks).owned ≡ true
    owned_released site o a result x goes keeps is =
        ap (λ (s : LockState). s.owned) (goes.counts there image) ∙ fed_owned quiescing.Leaves None site o a there image (lock_state_at there image c.locks) tt keeps is

-- ---- a newcomer

-- who lets a lock go looks at no header
lets_go_unlooked : (c : Command) → has_none_of drops_a_lock (profile c) ≡ false → has_none_of looks_at_a_header (profile c) ≡ true
lets_go_unlooked (command.Close image) drops = refl
lets_go_unlooked _ drops = cc

-- a command that takes no lock waits for nothing, or lets one go
is_calm_or_closes : (seat : Seat) (c : Command) (s : Standing) → takes_the_lock c ≡ false → IsPlanFor seat c s → IsCalmRequest s ⊎ DoesOnly IsNoLook s
is_calm_or_closes seat c s takes plan = by (joins_a_line (profile c)) (has_none_of drops_a_lock (profile c)) refl refl takes
  where
    by : (joins keeps : Bool) → joins_a_line (profile c) ≡ joins → has_none_of drops_a_lock (profile c) ≡ keeps → (joins && keeps) ≡ false → IsCalmRequest s ⊎ DoesOnly IsNoLook s
    by false keeps apart is none = inl (look_is_calm seat c s apart plan)
    by true false joins drops none = inr (looks_at_none (profile c) s (lets_go_unlooked c drops) (command_follows seat c s plan))
    by true true joins keeps none = absurd (true≢false none)

module _ {R : Type 0} (stands : R → Standing) (changes : Bool) (c : Command) (takes : changes ≡ false → takes_the_lock c ≡ false) where
  newcomer_looks : (extent_of : Command → Option Extent) (seat : Seat) (line : ℕ) (r : Running R) → BeginsAt stands IsPlanFor extent_of seat line c r → LooksUnlessItChanges stands changes r
  newcomer_looks extent_of seat line r begins = by changes refl
    where
      of : IsCalmRequest (stands r.request) ⊎ DoesOnly IsNoLook (stands r.request) → ComesToNoLook stands r
      of (inl calm) = inl (calm, begins.place)
      of (inr none) = inr none

      by : (b : Bool) → changes ≡ b → LooksUnlessItChanges stands b r
      by true is = tt
      by false is = of (is_calm_or_closes seat c (stands r.request) (takes is) begins.stands_there)

  pub newcomer_is_tame : (extent_of : Command → Option Extent) (seat : Seat) (line : ℕ) (o : Option (Occupant R)) (q : Quiescing) (s : SlotState) → IsNewcomer stands IsPlanFor extent_of seat line c o
      → s ≡ newcomer q → IsNoQuiesce q → (r : Running R) → running_in o ≡ Some r → IsTameSlot stands changes r s
  newcomer_is_tame extent_of seat line None q s new state quiet r runs = absurd new
  newcomer_is_tame extent_of seat line (Some (occupant.Refused number refusal)) q s new state quiet r runs = absurd (none-some r runs)
  newcomer_is_tame extent_of seat line (Some (occupant.Running x)) q s new state quiet r runs =
      let begins = subst (BeginsAt stands IsPlanFor extent_of seat line c) (same_Some x r runs) new in
      record {
        asks = takes_no_lock (profile c) (stands r.request) (command_follows seat c (stands r.request) begins.stands_there);
        looks = newcomer_looks extent_of seat line r begins;
        way = subst (λ (t : SlotState). MayBeOnWay changes t.way) (sym state) (unbegun_may changes);
        quiescing = subst (λ (t : SlotState). IsNoQuiesce t.quiescing) (sym state) quiet;
      }
