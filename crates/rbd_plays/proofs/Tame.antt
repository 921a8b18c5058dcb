-- A client of which no request ever waits for a lock that another one has.
use Rattle.std.proofs.Common.{◌≡◌, ◌≢◌, ℕ, ◌&&◌, ◌⊎◌, inl, inr, cond, Bool, true, false, is_some, Option, Some, None, refl, sym, ap, ◌∙◌, subst}
use Rattle.std.specs.Prelude.{IsSome}
use Rattle.std.proofs.lemmas.Bool.{cases_eq, true≢false}
use Rattle.std.proofs.lemmas.Option.{none-some, same_Some}
use Rattle.rbd_client.specs.Client.{ClientView, slot_state}
use Rattle.rbd_client.specs.Feeding.{GoesItsWay, ReleaseIsFed, RequestIsFed, WayComesTo, WayIsFed, state_behind, state_on_way}
use Rattle.rbd_client.specs.declared.slot_state.SlotState.{SlotState}
use Rattle.rbd_client.specs.declared.slot_state.Way.{Way}
use Rattle.rbd_client.specs.declared.slot_state.Way.TheVariants as way
use Rattle.rbd_commands.specs.declared.quiescing.Quiescing.TheVariants as quiescing
use Rattle.rbd_kinds.specs.OperationKind.{kind_of}
use Rattle.rbd_kinds.specs.declared.answer.Answer.{Answer}
use Rattle.rbd_kinds.specs.declared.children_op.ChildrenOp.TheVariants as children
use Rattle.rbd_kinds.specs.declared.data_op.DataOp.TheVariants as object
use Rattle.rbd_kinds.specs.declared.directory_op.DirectoryOp.TheVariants as directory
use Rattle.rbd_kinds.specs.declared.header_op.HeaderOp.TheVariants as header
use Rattle.rbd_kinds.specs.declared.id.SiteId.{SiteId}
use Rattle.rbd_kinds.specs.declared.image_at.ImageAt.{ImageAt}
use Rattle.rbd_kinds.specs.declared.journal_op.JournalOp.TheVariants as journal
use Rattle.rbd_kinds.specs.declared.layout.Extent.{Extent}
use Rattle.rbd_kinds.specs.declared.machine.Fed.TheVariants as fed
use Rattle.rbd_kinds.specs.declared.map_op.MapOp.TheVariants as map
use Rattle.rbd_kinds.specs.declared.operation.Op.{Op}
use Rattle.rbd_kinds.specs.declared.operation.Op.TheVariants as op
use Rattle.rbd_kinds.specs.declared.reply.Reply.{Reply}
use Rattle.rbd_knowledge.specs.Calm.{IsCalm, IsCalmRequest}
use Rattle.rbd_lock.specs.Locks.{lock_state_at}
use Rattle.rbd_machine.specs.Label.{Label}
use Rattle.rbd_machine.specs.Path.{at_operation}
use Rattle.rbd_machine.specs.Plan.{Ask, Await, Goto, Note, Plan, Return, Standing, plan_after}
use Rattle.rbd_lock.specs.declared.acquire.Acquire.{Acquire}
use Rattle.rbd_lock.specs.declared.release.Release.{Release}
use Rattle.rbd_slots.specs.Advance.{AdvancesTo, fed_by, track_of}
use Rattle.rbd_slots.specs.Lines.{LinesView}
use Rattle.rbd_slots.specs.Session.{ComesToIn, OfRunning, SessionView, going_in, held_in, is_look_at, kind_asked, look_under_lock_at, look_under_lock_in, look_under_lock_of, running_at, running_in}
use Rattle.rbd_slots.specs.Track.{Track, answered_by, run}
use Rattle.rbd_slots.specs.Waits.{waits}
use Rattle.rbd_slots.specs.declared.running.Occupant.{Occupant}
use Rattle.rbd_slots.specs.declared.running.Occupant.TheVariants as occupant
use Rattle.rbd_slots.specs.declared.running.Running.{Running}
use Rattle.rbd_catalog.specs.Asking.{AsksOnly, DoesOnly, IsNoLook}
use Rattle.rbd_catalog.specs.Follows.{TakesNoLock}
use Rattle.rbd_catalog.proofs.Asking.{only_after}
use Rattle.rbd_plays.proofs.Counts.{IsFree, IsNoQuiesce, fed_free}
use Rattle.rbd_plays.proofs.Ways.{IsEarly, IsFreeFor, is_early, way_stays_early}
use Rattle.rbd_world.proofs.Answered.{answered_place}

-- ---- a request that comes to no look under the lock

-- It waits for nothing and is in no line, or looks at no header.
abbrev pub ComesToNoLook : {R : Type 0} → (stands : R → Standing) → Running R → Type 0
ComesToNoLook stands r = (IsCalmRequest (stands r.request) × (r.place ≡ None)) ⊎ DoesOnly IsNoLook (stands r.request)

no_look : (there site : SiteId) (o : Op) → IsNoLook o → is_look_at there (Some (site, kind_of o)) ≡ false
no_look there site (op.Header image header.Get) none = absurd none
no_look there site (op.Header image _) none = refl
no_look there site (op.Directory (directory.Find name)) none = refl
no_look there site (op.Directory _) none = refl
no_look there site (op.Children (children.List parent snap)) none = refl
no_look there site (op.Children _) none = refl
no_look there site (op.Data image number (object.Read snap parts)) none = refl
no_look there site (op.Data image number _) none = refl
no_look there site (op.Map image (map.Get snap)) none = refl
no_look there site (op.Map image _) none = refl
no_look there site (op.Journal image journal.Remove) none = refl
no_look there site (op.Journal image _) none = refl
no_look there site (op.BlockAdd instance) none = refl

asks_no_look : (there : SiteId) (plan : Plan) → AsksOnly IsNoLook plan → is_look_at there (kind_asked plan) ≡ false
asks_no_look there (Ask site why o next) only = no_look there site o only.0
asks_no_look there (Await wait next) only = refl
asks_no_look there (Note site image event next) only = refl
asks_no_look there (Return reply) only = refl
asks_no_look there (Goto label) only = refl

no_image : (b x : Bool) (p : ImageAt) → b ≡ false → cond (b && x) (Some p) None ≡ None
no_image true x p is = absurd (true≢false is)
no_image false x p is = refl

module _ {R : Type 0} (stands : R → Standing) where
  looks_nowhere : (slot : ℕ) (lines : LinesView) (r : Running R) → ComesToNoLook stands r → look_under_lock_of slot (kind_asked (stands r.request).plan) r.place lines ≡ None
  looks_nowhere slot lines r (inl (calm, place)) = ap (λ p. look_under_lock_of slot (kind_asked (stands r.request).plan) p lines) place
  looks_nowhere slot lines r (inr none) = by r.place
    where
      by : (p : Option ImageAt) → look_under_lock_of slot (kind_asked (stands r.request).plan) p lines ≡ None
      by None = refl
      by (Some p) = no_image (is_look_at p.site (kind_asked (stands r.request).plan)) _ p (asks_no_look p.site (stands r.request).plan none.plan)

  going_nowhere : (slot : ℕ) (lines : LinesView) (o : Option (Occupant R)) → ((r : Running R) → running_in o ≡ Some r → ComesToNoLook stands r) → look_under_lock_in stands slot lines (going_in slot o lines) ≡ None
  going_nowhere slot lines None none = refl
  going_nowhere slot lines (Some (occupant.Refused line refusal)) none = refl
  going_nowhere slot lines (Some (occupant.Running r)) none = by (waits slot (track_of r lines))
    where
      by : (b : Bool) → look_under_lock_in stands slot lines (cond b None (Some r)) ≡ None
      by true = refl
      by false = looks_nowhere slot lines r (none r refl)

  pub no_look_under_lock : (slot : ℕ) (s : SessionView R) → ((r : Running R) → running_at slot s ≡ Some r → ComesToNoLook stands r) → look_under_lock_at stands slot s ≡ None
  no_look_under_lock slot s none = going_nowhere slot s.lines (held_in slot s.slots) none

-- ---- a slot, and a client

abbrev pub IsUnbegun : Way → Type 0
IsUnbegun way.Unbegun = Unit {0}
IsUnbegun w = ⊥

-- one that changes nothing begins no way
abbrev pub MayBeOnWay : (changes : Bool) → Way → Type 0
MayBeOnWay true w = IsEarly w
MayBeOnWay false w = IsUnbegun w

abbrev pub LooksUnlessItChanges : {R : Type 0} → (stands : R → Standing) → (changes : Bool) → Running R → Type 0
LooksUnlessItChanges stands true r = Unit {0}
LooksUnlessItChanges stands false r = ComesToNoLook stands r

pub record IsTameSlot {R : Type 0} (stands : R → Standing) (changes : Bool) (r : Running R) (s : SlotState) : Type 0 where
  pub asks : DoesOnly TakesNoLock (stands r.request)
  pub looks : LooksUnlessItChanges stands changes r
  pub way : MayBeOnWay changes s.way
  pub quiescing : IsNoQuiesce s.quiescing

pub record IsTame {R : Type 0} (stands : R → Standing) (changes : Bool) (c : ClientView R) : Type 0 where
  pub slots : (slot : ℕ) (r : Running R) → running_at slot c.session ≡ Some r → IsTameSlot stands changes r (slot_state slot c.slots)
  pub locks : (site : SiteId) (image : ℕ) → IsFree (lock_state_at site image c.locks)

-- ---- a request that is fed

calm_at : (labels : Label → Plan) → ((label : Label) → IsCalm (labels label)) → (plan : Plan) → IsCalm plan → IsCalm (at_operation labels plan)
calm_at labels there (Ask site why o next) calm = calm
calm_at labels there (Await wait next) calm = absurd calm
calm_at labels there (Note site image event next) calm = absurd calm
calm_at labels there (Return reply) calm = tt
calm_at labels there (Goto label) calm = there label

calm_after : (labels : Label → Plan) → ((label : Label) → IsCalm (labels label)) → (plan : Plan) (a : Answer) → IsCalm plan → IsCalm (at_operation labels (plan_after plan (fed.Answer a)))
calm_after labels there (Ask site why o next) a calm = calm_at labels there (next a) (calm a)
calm_after labels there (Await wait next) a calm = absurd calm
calm_after labels there (Note site image event next) a calm = absurd calm
calm_after labels there (Return reply) a calm = tt
calm_after labels there (Goto label) a calm = there label

-- it stays in no line
run_place : (slot : ℕ) (plan : Plan) (t : Track) → IsCalm plan → (run slot plan t).place ≡ t.place
run_place slot (Ask site why o next) t calm = refl
run_place slot (Await wait next) t calm = absurd calm
run_place slot (Note site image event next) t calm = absurd calm
run_place slot (Return reply) t calm = refl
run_place slot (Goto label) t calm = refl

fed_place : (slot : ℕ) (e : Option Extent) (t : Track) (plan : Plan) (a : Answer) → IsCalm plan → (run slot (plan_after plan (fed.Answer a)) (fed_by slot e t plan (fed.Answer a))).place ≡ t.place
fed_place slot e t (Ask site why o next) a calm = run_place slot (next a) (answered_by slot e t site o a) (calm a) ∙ answered_place slot e t site o a
fed_place slot e t (Await wait next) a calm = absurd calm
fed_place slot e t (Note site image event next) a calm = absurd calm
fed_place slot e t (Return reply) a calm = refl
fed_place slot e t (Goto label) a calm = refl

pub running_held : {R : Type 0} (o : Option (Occupant R)) (r : Running R) → running_in o ≡ Some r → o ≡ Some (occupant.Running r)
running_held None r is = absurd (none-some r is)
running_held (Some (occupant.Refused line refusal)) r is = absurd (none-some r is)
running_held (Some (occupant.Running q)) r is = ap (λ x. Some (occupant.Running x)) (same_Some q r is)

pub unbegun_may : (changes : Bool) → MayBeOnWay changes way.Unbegun
unbegun_may true = tt
unbegun_may false = tt

-- the request's look under the lock, or its end, leaves its way as it was or takes it away
behind_may : (changes ended looked : Bool) (s : SlotState) → MayBeOnWay changes s.way → MayBeOnWay changes (state_behind ended looked s).way
behind_may changes true looked s may = unbegun_may changes
behind_may changes false true s may = unbegun_may changes
behind_may changes false false s may = may

behind_quiets : (ended looked : Bool) (s : SlotState) → IsNoQuiesce s.quiescing → IsNoQuiesce (state_behind ended looked s).quiescing
behind_quiets true looked s none = tt
behind_quiets false true s none = none
behind_quiets false false s none = none

module _ {R : Type 0} (stands : R → Standing) where
  -- the same request at its next operation
  abbrev pub plan_then : Running R → Answer → Plan
  plan_then r a = at_operation (stands r.request).labels (plan_after (stands r.request).plan (fed.Answer a))

  abbrev pub track_then : (slot : ℕ) → LinesView → Running R → Answer → Track
  track_then slot lines r a = run slot (plan_after (stands r.request).plan (fed.Answer a)) (fed_by slot r.extent (track_of r lines) (stands r.request).plan (fed.Answer a))

  abbrev pub standing_then : Running R → (plan : Plan) → Standing
  standing_then r plan = record { labels = (stands r.request).labels; plan = plan }

  abbrev pub IsNext : (slot : ℕ) → (plan : Plan) → Track → (r q : Running R) → Type 0
  IsNext slot plan t r q = (stands q.request ≡ standing_then r plan) × (q.place ≡ t.place)

  goes_further : (slot : ℕ) (after : LinesView) (result : Option Reply) (r q : Running R) (plan : Plan) (t : Track) → result ≡ None → AdvancesTo stands slot (stands r.request).labels plan t result r q after → IsNext slot plan t r q
  goes_further slot after result r q (Return reply) t none ended = absurd (none-some reply (sym none ∙ ended.reply))
  goes_further slot after result r q (Ask site why o next) t none goes = (goes.request, ap (λ (x : Track). x.place) goes.track)
  goes_further slot after result r q (Await wait next) t none goes = (goes.request, ap (λ (x : Track). x.place) goes.track)
  goes_further slot after result r q (Note site image event next) t none goes = (goes.request, ap (λ (x : Track). x.place) goes.track)
  goes_further slot after result r q (Goto label) t none goes = (goes.request, ap (λ (x : Track). x.place) goes.track)

  goes_next : (slot : ℕ) (lines after : LinesView) (a : Answer) (result : Option Reply) (r q : Running R) → ComesToIn stands slot lines (fed.Answer a) result r (Some (occupant.Running q)) after
      → IsNext slot (plan_then r a) (track_then slot lines r a) r q
  goes_next slot lines after a result r q comes = goes_further slot after result r q (plan_then r a) (track_then slot lines r a) comes.0 comes.1

  does_next : (May : Op → Type 0) (a : Answer) (r : Running R) → DoesOnly May (stands r.request) → DoesOnly May (standing_then r (plan_then r a))
  does_next May a r only = record { plan = only_after May (stands r.request).labels only.labels (stands r.request).plan a only.plan; labels = only.labels }

  looks_next : (slot : ℕ) (lines : LinesView) (a : Answer) (r q : Running R) → IsNext slot (plan_then r a) (track_then slot lines r a) r q → ComesToNoLook stands r → ComesToNoLook stands q
  looks_next slot lines a r q is (inl (calm, place)) = inl (
    subst IsCalmRequest (sym is.0) (record { plan = calm_after (stands r.request).labels calm.labels (stands r.request).plan a calm.plan; labels = calm.labels }),
    is.1 ∙ fed_place slot r.extent (track_of r lines) (stands r.request).plan a calm.plan ∙ place,
  )
  looks_next slot lines a r q is (inr none) = inr (subst (DoesOnly IsNoLook) (sym is.0) (does_next IsNoLook a r none))

  tame_next : (changes : Bool) (slot : ℕ) (lines : LinesView) (a : Answer) (r q : Running R) (s t : SlotState) → IsNext slot (plan_then r a) (track_then slot lines r a) r q
      → MayBeOnWay changes t.way → IsNoQuiesce t.quiescing → IsTameSlot stands changes r s → IsTameSlot stands changes q t
  tame_next changes slot lines a r q s t is may quiet tame = record {
    asks = subst (DoesOnly TakesNoLock) (sym is.0) (does_next TakesNoLock a r tame.asks);
    looks = by changes tame.looks;
    way = may;
    quiescing = quiet;
  }
    where
      by : (changes : Bool) → LooksUnlessItChanges stands changes r → LooksUnlessItChanges stands changes q
      by true looks = tt
      by false looks = looks_next slot lines a r q is looks

  -- ---- what is left of a client's slots where one of them changes

  module _ (changes : Bool) (slot : ℕ) (c d : ClientView R) (slots : (other : ℕ) → other ≢ slot → held_in other d.session.slots ≡ held_in other c.session.slots)
      (states : (other : ℕ) → other ≢ slot → slot_state other d.slots ≡ slot_state other c.slots) where
    all_slots : ((r : Running R) → running_at slot d.session ≡ Some r → IsTameSlot stands changes r (slot_state slot d.slots)) → IsTame stands changes c
        → (other : ℕ) (r : Running R) → running_at other d.session ≡ Some r → IsTameSlot stands changes r (slot_state other d.slots)
    all_slots here tame other r runs = by (cases_eq other slot)
      where
        by : (other ≡ slot) ⊎ (other ≡ slot → ⊥) → IsTameSlot stands changes r (slot_state other d.slots)
        by (inl same) = subst (λ n. IsTameSlot stands changes r (slot_state n d.slots)) (sym same) (here r (subst (λ n. running_at n d.session ≡ Some r) same runs))
        by (inr away) = subst (IsTameSlot stands changes r) (sym (states other away)) (tame.slots other r (sym (ap running_in (slots other away)) ∙ runs))

    -- its request was answered
    pub tame_fed : (site : SiteId) (o : Op) (a : Answer) (result : Option Reply) (r : Running R) → held_in slot c.session.slots ≡ Some (occupant.Running r) → RequestIsFed stands slot site o (fed.Answer a) result c d
        → IsTame stands changes c → IsTame stands changes d
    tame_fed site o a result r held goes tame =
        let mine = tame.slots slot r (ap running_in held) in
        record {
          slots = all_slots
              (λ q runs.
              let comes : ComesToIn stands slot c.session.lines (fed.Answer a) result r (held_in slot d.session.slots) d.session.lines
              = subst (λ o. OfRunning (λ x. ComesToIn stands slot c.session.lines (fed.Answer a) result x (held_in slot d.session.slots) d.session.lines) o) held goes.fed in
              let next = goes_next slot c.session.lines d.session.lines a result r q (subst (λ o. ComesToIn stands slot c.session.lines (fed.Answer a) result r o d.session.lines) (running_held (held_in slot d.session.slots) q runs) comes) in
              let looked = is_some (look_under_lock_at stands slot c.session) in
              tame_next changes slot c.session.lines a r q (slot_state slot c.slots) (slot_state slot d.slots) next
              (subst (λ s. MayBeOnWay changes s.way) (sym goes.state) (behind_may changes (is_some result) looked (slot_state slot c.slots) mine.way))
              (subst (λ s. IsNoQuiesce s.quiescing) (sym goes.state) (behind_quiets (is_some result) looked (slot_state slot c.slots) mine.quiescing)) mine)
              tame;
          locks = λ there image.
              subst IsFree (sym (goes.counts there image))
              (fed_free (slot_state slot c.slots).quiescing (look_under_lock_at stands slot c.session) site o a there image (lock_state_at there image c.locks) mine.quiescing (tame.locks there image));
        }

    -- it was served, before any operation
    pub tame_served : held_in slot d.session.slots ≡ None → d.locks ≡ c.locks → IsTame stands changes c → IsTame stands changes d
    tame_served free locks tame = record {
      slots = all_slots (λ r runs. absurd (none-some r (sym (ap running_in free) ∙ runs))) tame;
      locks = λ there image. subst (λ l. IsFree (lock_state_at there image l)) (sym locks) (tame.locks there image);
    }

    -- a request began in it
    pub tame_begun : ((r : Running R) → running_at slot d.session ≡ Some r → IsTameSlot stands changes r (slot_state slot d.slots)) → d.locks ≡ c.locks → IsTame stands changes c → IsTame stands changes d
    tame_begun here locks tame = record {
      slots = all_slots here tame;
      locks = λ there image. subst (λ l. IsFree (lock_state_at there image l)) (sym locks) (tame.locks there image);
    }

  -- its way went on
  pub tame_on_way : (slot : ℕ) (c d : ClientView R) → ((other : ℕ) → other ≢ slot → held_in other d.session.slots ≡ held_in other c.session.slots)
      → ((other : ℕ) → other ≢ slot → slot_state other d.slots ≡ slot_state other c.slots)
      → (site : SiteId) (o : Op) (told : Answer) (result : Option Reply) (r : Running R) (a : Acquire) → held_in slot c.session.slots ≡ Some (occupant.Running r) → is_early a.stage ≡ true → IsFreeFor a.stage told
      → WayIsFed a slot site o (fed.Answer told) result c d → IsTame stands true c → IsTame stands true d
  tame_on_way slot c d slots states site o told result r a held early free goes tame =
      let mine = tame.slots slot r (ap running_in held) in
      record {
        slots = all_slots true slot c d slots states (by result (slot_state slot d.slots).way goes.comes goes.session goes.state) tame;
        locks = λ there image. subst IsFree (sym (goes.counts there image)) (fed_free quiescing.Leaves None site o told there image (lock_state_at there image c.locks) tt (tame.locks there image));
      }
    where
      by : (result : Option Reply) (w : Way) → WayComesTo a (fed.Answer told) result w → GoesItsWay slot result c.session d.session → slot_state slot d.slots ≡ state_on_way (is_some result) w (slot_state slot c.slots)
          → (q : Running R) → running_at slot d.session ≡ Some q → IsTameSlot stands true q (slot_state slot d.slots)
      by None w comes same state q runs =
          let was = tame.slots slot q (sym (ap (running_at slot) same) ∙ runs) in
          record {
            asks = was.asks;
            looks = tt;
            way = subst (λ s. IsEarly s.way) (sym state) (way_stays_early a told w early free comes);
            quiescing = subst (λ s. IsNoQuiesce s.quiescing) (sym state) was.quiescing;
          }
      by (Some reply) w comes given state q runs =
          absurd (none-some q (sym (ap running_in (given.free (subst IsSome (sym (ap running_in held)) refl))) ∙ runs))

  -- a release went on
  pub tame_released : (changes : Bool) (c d : ClientView R) (site : SiteId) (o : Op) (a : Answer) (result : Option Reply) (x : Release) → ReleaseIsFed x site o (fed.Answer a) result c d
      → IsTame stands changes c → IsTame stands changes d
  tame_released changes c d site o a result x goes tame = record {
    slots = λ slot r runs.
        subst (λ l. IsTameSlot stands changes r (slot_state slot l)) (sym goes.slots)
        (tame.slots slot r (sym (ap (running_at slot) goes.session) ∙ runs));
    locks = λ there image. subst IsFree (sym (goes.counts there image)) (fed_free quiescing.Leaves None site o a there image (lock_state_at there image c.locks) tt (tame.locks there image));
  }
