-- What holds of each session is kept.
use Rattle.std.proofs.Common.{◌≡◌, ◌≢◌, ◌⊎◌, inl, inr, ℕ, zero, suc, ◌+◌, ◌<◌, ◌≤◌, Bool, true, false, List, [], length, replicate, slice_index_or, slice_set, cond, nat_lt, Option, Some, None, IsSome, is_some, refl, sym, ap, ◌∙◌, subst, arith}
use Rattle.std.proofs.lemmas.Bool.{true≢false, cases_eq, cases_lt, ltb-true, ltb-false}
use Rattle.std.proofs.lemmas.List.{length-replicate, length-set, get_or-set_same, get_or-set_other, get_or_past, get_or_default}
use Rattle.std.proofs.lemmas.Option.{none-some, same_Some}
use Rattle.rbd_kinds.specs.declared.id.Instance.{Instance}
use Rattle.rbd_kinds.specs.declared.id.SiteId.{SiteId}
use Rattle.rbd_kinds.specs.declared.layout.Extent.{Extent}
use Rattle.rbd_queue.specs.Line.{Member, member_of, objects_in, IsFairLine}
use Rattle.rbd_commands.specs.declared.refusal.Refusal.{Refusal}
use Rattle.rbd_queue.specs.Turns.{begins_with}
use Rattle.rbd_machine.specs.Course.{beginning}
use Rattle.rbd_machine.specs.Orderly.{IsOrderlyFrom}
use Rattle.rbd_kinds.specs.declared.machine.Fed.{Fed}
use Rattle.rbd_kinds.specs.declared.reply.Reply.{Reply}
use Rattle.rbd_machine.specs.Label.{Label}
use Rattle.rbd_machine.specs.Path.{at_operation}
use Rattle.rbd_machine.specs.declared.seat.Seat.{Seat}
use Rattle.rbd_machine.specs.Plan.{Plan, Ask, Await, Note, Return, Goto, Standing, IsAsking, plan_after}
use Rattle.rbd_kinds.specs.declared.image_at.ImageAt.{ImageAt}
use Rattle.rbd_slots.specs.declared.running.Occupant.{Occupant}
use Rattle.rbd_slots.specs.declared.running.Occupant.TheVariants as occupant
use Rattle.rbd_slots.specs.declared.running.Running.{Running}
use Rattle.rbd_slots.specs.Lines.{AreUsed, LinesView, lines_of}
use Rattle.rbd_slots.specs.OnTrack.{IsOnTrack, IsThere, IsSomewhere, AreFair, LeavesOthers}
use Rattle.rbd_slots.specs.Track.{Track, line_in, course_in, course_of, run}
use Rattle.rbd_slots.specs.Advance.{track_of, fed_by, GoesFurther, AdvancesTo}
use Rattle.rbd_slots.specs.Session.{SessionView, IsSoundSession, IsLowest, IsNewcomer, OfRunning, ComesToIn, KeepsToItsLine, lowest_after, refusal_in, held_in, running_in, running_at}

abbrev pub nothing : {T : Type 0} → Option T
nothing = None

pub all_free : {T : Type 0} (n slot : ℕ) → held_in slot (replicate n (nothing {T = T})) ≡ None
all_free zero zero = refl
all_free zero (suc slot) = refl
all_free (suc n) zero = refl
all_free (suc n) (suc slot) = all_free n slot

fair_none : IsFairLine []
fair_none = record { apart = tt; each = tt; passing = tt }

pub new_sound : {R : Type 0} (stands : R → Standing) (instance : Instance) (home : SiteId) (slots : List (Option (Occupant R))) (lines : LinesView) → slots ≡ replicate 65 None
    → ((site : SiteId) (image : ℕ) → lines_of lines site image ≡ []) → AreUsed lines.entries
    → IsSoundSession stands (record { instance = instance; home = home; slots = slots; lowest = 1; lines = lines })
new_sound {R} stands instance home slots lines are none used =
    let free : (slot : ℕ) → held_in slot slots ≡ None = λ slot. ap (held_in slot) are ∙ all_free 65 slot in
    record {
      slots = ap length are ∙ length-replicate 65 (nothing {T = Occupant R});
      zero = free 0;
      lowest = record { some = omega arith; most = omega arith; below = λ slot from to. absurd (omega (arith, from, to)); free = free 1 };
      runs = λ slot r is. absurd (none-some r (sym (ap running_in (free slot)) ∙ is));
      asks = λ slot r is. absurd (none-some r (sym (ap running_in (free slot)) ∙ is));
      others = λ slot is site image. ap (member_of slot) (none site image);
      fair = λ site image. subst IsFairLine (sym (none site image)) fair_none;
      used = used;
    }

-- ---- the others

line_member : (n k : ℕ) → n ≢ k → (old new : LinesView) → LeavesOthers k (lines_of old) (lines_of new) → (place : Option ImageAt)
    → member_of n (line_in place (lines_of new)) ≡ member_of n (line_in place (lines_of old))
line_member n k differ old new leaves None = refl
line_member n k differ old new leaves (Some p) = leaves n differ p.site p.image

other_course : {R : Type 0} (n k : ℕ) → n ≢ k → (r : Running R) (old new : LinesView) → LeavesOthers k (lines_of old) (lines_of new)
    → course_of n (track_of r new) ≡ course_of n (track_of r old)
other_course n k differ r old new leaves = ap (course_in r.turn [] r.place) (line_member n k differ old new leaves r.place)

pub other_on_track : {R : Type 0} (n k : ℕ) → n ≢ k → (r : Running R) (e : Option Extent) (s : Standing) (old new : LinesView) → LeavesOthers k (lines_of old) (lines_of new)
    → IsOnTrack n e true s (track_of r old) → IsOnTrack n e true s (track_of r new)
other_on_track n k differ r e s old new leaves on = record {
  somewhere = moved on.somewhere;
  elsewhere = λ site image not_here. leaves n differ site image ∙ on.elsewhere site image not_here;
  orderly = subst (λ c. IsOrderlyFrom e true c s) (sym (other_course n k differ r old new leaves)) on.orderly;
  takes = inl refl;
  turns = λ object is. ap (λ o. begins_with object (objects_in o)) (line_member n k differ old new leaves r.place) ∙ on.turns object is;
}
  where
    moved : (r.place ≡ None) ⊎ ((p : ImageAt) × (m : Member) × IsThere n p m (track_of r old)) → IsSomewhere n (track_of r new)
    moved (inl nowhere) = inl nowhere
    moved (inr (p, m, at)) = inr (p, m, record { place = at.place; member = leaves n differ p.site p.image ∙ at.member })

-- ---- a slot that changes

-- what has to hold of it then
abbrev pub IsWell : {R : Type 0} → (stands : R → Standing) → (slot : ℕ) → Option (Occupant R) → LinesView → Type 0
IsWell stands slot (Some (occupant.Running r)) lines = IsOnTrack slot r.extent true (stands r.request) (track_of r lines) × IsAsking (stands r.request).plan
IsWell stands slot o lines = (site : SiteId) (image : ℕ) → member_of slot (lines_of lines site image) ≡ None

module _ {R : Type 0} (stands : R → Standing) where
  well_runs : (slot : ℕ) (o : Option (Occupant R)) (lines : LinesView) → IsWell stands slot o lines → (r : Running R) → running_in o ≡ Some r
      → IsOnTrack slot r.extent true (stands r.request) (track_of r lines) × IsAsking (stands r.request).plan
  well_runs slot (Some (occupant.Running q)) lines well r is = subst (λ r. IsOnTrack slot r.extent true (stands r.request) (track_of r lines) × IsAsking (stands r.request).plan) (same_Some q r is) well
  well_runs slot (Some (occupant.Refused line refusal)) lines well r is = absurd (none-some r is)
  well_runs slot None lines well r is = absurd (none-some r is)

  well_rests : (slot : ℕ) (o : Option (Occupant R)) (lines : LinesView) → IsWell stands slot o lines → running_in o ≡ None → (site : SiteId) (image : ℕ) → member_of slot (lines_of lines site image) ≡ None
  well_rests slot (Some (occupant.Running q)) lines well is = absurd (none-some q (sym is))
  well_rests slot (Some (occupant.Refused line refusal)) lines well is = well
  well_rests slot None lines well is = well

  pub set_sound : (s : SessionView R) → IsSoundSession stands s → (slot : ℕ) → 1 ≤ slot → slot ≤ 64 → (o : Option (Occupant R)) (lowest : ℕ) (lines : LinesView)
      → LeavesOthers slot (lines_of s.lines) (lines_of lines) → AreFair (lines_of lines) → AreUsed lines.entries → IsLowest lowest (slice_set s.slots slot o) → IsWell stands slot o lines
      → IsSoundSession stands (record { instance = s.instance; home = s.home; slots = slice_set s.slots slot o; lowest = lowest; lines = lines })
  set_sound s sound slot from to o lowest lines leaves fair used is_lowest well = record {
    slots = length-set s.slots slot o ∙ sound.slots;
    zero = get_or-set_other s.slots slot 0 o None (λ same. omega (arith, from, same)) ∙ sound.zero;
    lowest = is_lowest;
    runs = λ n r is. (runs_at n r is).0;
    asks = λ n r is. (runs_at n r is).1;
    others = rests_at;
    fair = fair;
    used = used;
  }
    where
      runs_at : (n : ℕ) (r : Running R) → running_in (held_in n (slice_set s.slots slot o)) ≡ Some r → IsOnTrack n r.extent true (stands r.request) (track_of r lines) × IsAsking (stands r.request).plan
      runs_at n r is = go (cases_eq n slot)
        where
          go : (n ≡ slot) ⊎ (n ≢ slot) → IsOnTrack n r.extent true (stands r.request) (track_of r lines) × IsAsking (stands r.request).plan
          go (inl same) =
              subst (λ k. IsOnTrack k r.extent true (stands r.request) (track_of r lines) × IsAsking (stands r.request).plan) (sym same)
              (well_runs slot o lines well r (ap running_in (sym (ap (λ k. held_in k (slice_set s.slots slot o)) same ∙ get_or-set_same s.slots slot o None (let len = sound.slots in omega (arith, len, to)))) ∙ is))
          go (inr differ) =
              let was : running_at n s ≡ Some r = ap running_in (sym (get_or-set_other s.slots slot n o None differ)) ∙ is in
              (other_on_track n slot differ r r.extent (stands r.request) s.lines lines leaves (sound.runs n r was), sound.asks n r was)

      rests_at : (n : ℕ) → running_in (held_in n (slice_set s.slots slot o)) ≡ None → (site : SiteId) (image : ℕ) → member_of n (lines_of lines site image) ≡ None
      rests_at n is = go (cases_eq n slot)
        where
          go : (n ≡ slot) ⊎ (n ≢ slot) → (site : SiteId) (image : ℕ) → member_of n (lines_of lines site image) ≡ None
          go (inl same) site image =
              ap (λ k. member_of k (lines_of lines site image)) same
              ∙ well_rests slot o lines well (ap running_in (sym (ap (λ k. held_in k (slice_set s.slots slot o)) same ∙ get_or-set_same s.slots slot o None (let len = sound.slots in omega (arith, len, to)))) ∙ is) site image
          go (inr differ) site image =
              leaves n differ site image ∙ sound.others n (ap running_in (sym (get_or-set_other s.slots slot n o None differ)) ∙ is) site image

-- ---- a slot that is taken

pub taken : {T : Type 0} (slots : List (Option T)) (lowest : ℕ) (value : T) (next : ℕ) → IsLowest lowest slots → length slots ≡ 65 → lowest ≤ 64 → lowest + 1 ≤ next → next ≤ 65
    → ((slot : ℕ) → lowest + 1 ≤ slot → slot < next → IsSome (held_in slot (slice_set slots lowest (Some value)))) → held_in next (slice_set slots lowest (Some value)) ≡ None
    → IsLowest next (slice_set slots lowest (Some value))
taken slots lowest value next old len most from to below free = record {
  some = let some = old.some in omega (arith, some, from);
  most = to;
  below = λ slot one less. go slot one less (cases_eq slot lowest);
  free = free;
}
  where
    go : (slot : ℕ) → 1 ≤ slot → slot < next → (slot ≡ lowest) ⊎ (slot ≢ lowest) → IsSome (held_in slot (slice_set slots lowest (Some value)))
    go slot one less (inl same) =
        subst IsSome (sym (ap (λ k. held_in k (slice_set slots lowest (Some value))) same ∙ get_or-set_same slots lowest (Some value) None (omega (arith, len, most)))) refl
    go slot one less (inr differ) = by (cases_lt slot lowest)
      where
        by : (slot < lowest) ⊎ (lowest ≤ slot) → IsSome (held_in slot (slice_set slots lowest (Some value)))
        by (inl before) = subst IsSome (sym (get_or-set_other slots lowest slot (Some value) None differ)) (old.below slot one before)
        by (inr behind) = below slot (omega (arith, behind, differ)) less

module _ {R W : Type 0} (stands : R → Standing) (stands_for : Seat → W → Standing → Type 0) (extent_for : W → Option Extent) where
  pub newcomer_well : (seat : Seat) (line : ℕ) (work : W) (slot : ℕ) (o : Occupant R) (lines : LinesView)
      → ((s : Standing) → stands_for seat work s → IsAsking s.plan → IsOrderlyFrom (extent_for work) true beginning s)
      → ((site : SiteId) (image : ℕ) → member_of slot (lines_of lines site image) ≡ None) → IsNewcomer stands stands_for extent_for seat line work (Some o) → IsWell stands slot (Some o) lines
  newcomer_well seat line work slot (occupant.Refused number refusal) lines orderly none new = none
  newcomer_well seat line work slot (occupant.Running r) lines orderly none new = (
    record {
      somewhere = inl new.place;
      elsewhere = λ site image not_here. none site image;
      orderly =
          subst (λ e. IsOrderlyFrom e true (course_of slot (track_of r lines)) (stands r.request)) (sym new.extent)
          (subst (λ c. IsOrderlyFrom (extent_for work) true c (stands r.request))
          (sym (ap (λ p. course_in r.turn [] p (member_of slot (line_in p (lines_of lines)))) new.place ∙ ap (λ t. course_in t [] None None) new.turn))
          (orderly (stands r.request) new.stands_there new.asks));
      takes = inl refl;
      turns = λ object is. absurd (none-some object (sym new.turn ∙ is));
    },
    new.asks,
  )

-- ---- a slot that is let go

pub held_range : {R : Type 0} (stands : R → Standing) (s : SessionView R) → IsSoundSession stands s → (slot : ℕ) (o : Occupant R) → held_in slot s.slots ≡ Some o → (1 ≤ slot) × (slot ≤ 64)
held_range {R} stands s sound slot o is = (from slot is, to (cases_lt slot 65))
  where
    from : (k : ℕ) → held_in k s.slots ≡ Some o → 1 ≤ k
    from zero at = absurd (none-some o (sym sound.zero ∙ at))
    from (suc k) at = omega arith

    to : (slot < 65) ⊎ (65 ≤ slot) → slot ≤ 64
    to (inl less) = omega (arith, less)
    to (inr past) = absurd (none-some o (sym (get_or_past s.slots slot None (let len = sound.slots in omega (arith, len, past))) ∙ is))

refused_is : {R : Type 0} (o : Option (Occupant R)) (x : Refusal) → refusal_in o ≡ Some x → IsSome o × (running_in o ≡ None)
refused_is (Some (occupant.Refused line refusal)) x is = (refl, refl)
refused_is (Some (occupant.Running r)) x is = absurd (none-some x is)
refused_is None x is = absurd (none-some x is)

-- the slot of a request that is refused
pub refused_range : {R : Type 0} (stands : R → Standing) (s : SessionView R) → IsSoundSession stands s → (slot : ℕ) (x : Refusal) → refusal_in (held_in slot s.slots) ≡ Some x → (1 ≤ slot) × (slot ≤ 64)
refused_range {R} stands s sound slot x is = range (held_in slot s.slots) refl
  where
    range : (o : Option (Occupant R)) → held_in slot s.slots ≡ o → (1 ≤ slot) × (slot ≤ 64)
    range (Some o) at = held_range stands s sound slot o at
    range None at = absurd (none-some x (sym (ap refusal_in at) ∙ is))

pub refused_goes : {R : Type 0} (stands : R → Standing) (s : SessionView R) → IsSoundSession stands s → (slot : ℕ) (x : Refusal) → refusal_in (held_in slot s.slots) ≡ Some x
    → (slots : List (Option (Occupant R))) (lowest : ℕ) → slots ≡ slice_set s.slots slot None → IsLowest lowest slots
    → IsSoundSession stands (record { instance = s.instance; home = s.home; slots = slots; lowest = lowest; lines = s.lines })
refused_goes {R} stands s sound slot x is slots lowest are is_lowest =
    subst (λ xs. IsSoundSession stands (record { instance = s.instance; home = s.home; slots = xs; lowest = lowest; lines = s.lines })) (sym are)
    (let within = refused_range stands s sound slot x is in
    set_sound stands s sound slot within.0 within.1 None lowest s.lines (λ other differ site image. refl) sound.fair sound.used
    (subst (IsLowest lowest) are is_lowest) (sound.others slot (refused_is (held_in slot s.slots) x is).1))

-- what stands at a place within
pub stands_at : {T : Type 0} (slots : List (Option T)) (slot : ℕ) (held : Option T) → slot < length slots → held ≡ slice_index_or slots slot held → held_in slot slots ≡ held
stands_at slots slot held less is = get_or_default slots slot None held less ∙ sym is

pub running_range : {R : Type 0} (stands : R → Standing) (s : SessionView R) → IsSoundSession stands s → (slot : ℕ) (P : Running R → Type 0) → OfRunning P (held_in slot s.slots) → (1 ≤ slot) × (slot ≤ 64)
running_range {R} stands s sound slot P runs = go (held_in slot s.slots) refl runs
  where
    go : (o : Option (Occupant R)) → held_in slot s.slots ≡ o → OfRunning P o → (1 ≤ slot) × (slot ≤ 64)
    go (Some (occupant.Running r)) is runs = held_range stands s sound slot (occupant.Running r) is
    go (Some (occupant.Refused line refusal)) is runs = elim runs [ ]
    go None is runs = elim runs [ ]

pub is_within : {R : Type 0} (stands : R → Standing) (s : SessionView R) → IsSoundSession stands s → (slot : ℕ) (P : Running R → Type 0) → OfRunning P (held_in slot s.slots) → slot < length s.slots
is_within stands s sound slot P runs = let to = (running_range stands s sound slot P runs).1 in let len = sound.slots in omega (arith, to, len)

-- ---- a slot that is fed

pub stays_lowest : {T : Type 0} (slots : List (Option T)) (lowest slot : ℕ) (before after : T) → IsLowest lowest slots → slot < length slots → held_in slot slots ≡ Some before
    → IsLowest lowest (slice_set slots slot (Some after))
stays_lowest slots lowest slot before after old less is = record {
  some = old.some;
  most = old.most;
  below = λ n one low. go n one low (cases_eq n slot);
  free = get_or-set_other slots slot lowest (Some after) None (λ same. none-some before (sym old.free ∙ ap (λ k. held_in k slots) same ∙ is)) ∙ old.free;
}
  where
    go : (n : ℕ) → 1 ≤ n → n < lowest → (n ≡ slot) ⊎ (n ≢ slot) → IsSome (held_in n (slice_set slots slot (Some after)))
    go n one low (inl same) =
        subst IsSome (sym (ap (λ k. held_in k (slice_set slots slot (Some after))) same ∙ get_or-set_same slots slot (Some after) None less)) refl
    go n one low (inr differ) = subst IsSome (sym (get_or-set_other slots slot n (Some after) None differ)) (old.below n one low)

gets_lowest : {T : Type 0} (slots : List (Option T)) (lowest slot : ℕ) → IsLowest lowest slots → slot < length slots → 1 ≤ slot → slot ≤ 65
    → IsLowest (cond (nat_lt slot lowest) slot lowest) (slice_set slots slot None)
gets_lowest slots lowest slot old less from to = go (nat_lt slot lowest) refl
  where
    others : (n : ℕ) → n ≢ slot → IsSome (held_in n slots) → IsSome (held_in n (slice_set slots slot None))
    others n differ some = subst IsSome (sym (get_or-set_other slots slot n None None differ)) some

    go : (b : Bool) → nat_lt slot lowest ≡ b → IsLowest (cond b slot lowest) (slice_set slots slot None)
    go true is =
        let before = ltb-true slot lowest is in
        record {
          some = from;
          most = to;
          below = λ n one low. others n (λ same. omega (arith, same, low)) (old.below n one (omega (arith, low, before)));
          free = get_or-set_same slots slot None None less;
        }
    go false is =
        let behind = ltb-false slot lowest is in
        record {
          some = old.some;
          most = old.most;
          below = λ n one low. others n (λ same. omega (arith, same, low, behind)) (old.below n one low);
          free = by (cases_eq lowest slot);
        }
      where
        by : (lowest ≡ slot) ⊎ (lowest ≢ slot) → held_in lowest (slice_set slots slot None) ≡ None
        by (inl same) = ap (λ k. held_in k (slice_set slots slot None)) same ∙ get_or-set_same slots slot None None less
        by (inr differ) = get_or-set_other slots slot lowest None None differ ∙ old.free

further_asks : {R : Type 0} (stands : R → Standing) (slot : ℕ) (to : Standing) (t : Track) (r q : Running R) (lines : LinesView) → GoesFurther stands slot to t None r q lines
    → IsAsking (stands q.request).plan
further_asks stands slot to t r q lines goes = subst (λ (s : Standing). IsAsking s.plan) (sym goes.request) goes.asks

ended_well : {R : Type 0} (stands : R → Standing) (slot : ℕ) (labels : Label → Plan) (plan : Plan) (t : Track) (reply : Reply) (r q : Running R) (lines : LinesView)
    → AdvancesTo stands slot labels plan t (Some reply) r q lines → (site : SiteId) (image : ℕ) → member_of slot (lines_of lines site image) ≡ None
ended_well stands slot labels (Return last) t reply r q lines comes site image = comes.nowhere site image refl
ended_well stands slot labels (Ask site why o next) t reply r q lines comes site_at image_at = absurd (none-some reply (sym comes.none))
ended_well stands slot labels (Await w next) t reply r q lines comes site_at image_at = absurd (none-some reply (sym comes.none))
ended_well stands slot labels (Note site image event next) t reply r q lines comes site_at image_at = absurd (none-some reply (sym comes.none))
ended_well stands slot labels (Goto label) t reply r q lines comes site_at image_at = absurd (none-some reply (sym comes.none))

module _ {R : Type 0} (stands : R → Standing) where
  comes_asking : (slot : ℕ) (labels : Label → Plan) (plan : Plan) (t : Track) (r q : Running R) (lines : LinesView) → AdvancesTo stands slot labels plan t None r q lines → IsAsking (stands q.request).plan
  comes_asking slot labels (Return reply) t r q lines comes = absurd (none-some reply comes.reply)
  comes_asking slot labels (Ask site why o next) t r q lines comes = further_asks stands slot (record { labels = labels; plan = Ask site why o next }) t r q lines comes
  comes_asking slot labels (Await w next) t r q lines comes = further_asks stands slot (record { labels = labels; plan = Await w next }) t r q lines comes
  comes_asking slot labels (Note site image event next) t r q lines comes = further_asks stands slot (record { labels = labels; plan = Note site image event next }) t r q lines comes
  comes_asking slot labels (Goto label) t r q lines comes = further_asks stands slot (record { labels = labels; plan = Goto label }) t r q lines comes

  comes_well : (slot : ℕ) (f : Fed) (result : Option Reply) (r : Running R) (o : Option (Occupant R)) (lines after : LinesView) → ComesToIn stands slot lines f result r o after → KeepsToItsLine stands slot o after
      → IsWell stands slot o after
  comes_well slot f None r (Some (occupant.Running q)) lines after comes keeps = (
    keeps,
    comes_asking slot (stands r.request).labels (at_operation (stands r.request).labels (plan_after (stands r.request).plan f))
        (run slot (plan_after (stands r.request).plan f) (fed_by slot r.extent (track_of r lines) (stands r.request).plan f)) r q after comes.1,
  )
  comes_well slot f (Some reply) r (Some (occupant.Running q)) lines after comes keeps = absurd (none-some reply (sym comes.0))
  comes_well slot f (Some reply) r None lines after comes keeps =
      ended_well stands slot (stands r.request).labels (at_operation (stands r.request).labels (plan_after (stands r.request).plan f))
      (run slot (plan_after (stands r.request).plan f) (fed_by slot r.extent (track_of r lines) (stands r.request).plan f)) reply r r after comes.1
  comes_well slot f None r None lines after comes keeps = absurd (true≢false (sym comes.0))
  comes_well slot f result r (Some (occupant.Refused line refusal)) lines after comes keeps = elim comes [ ]

  comes_lowest : (slots : List (Option (Occupant R))) (lowest slot : ℕ) (f : Fed) (result : Option Reply) (r : Running R) (o : Option (Occupant R)) (lines after : LinesView)
      → IsLowest lowest slots → slot < length slots → 1 ≤ slot → slot ≤ 65 → held_in slot slots ≡ Some (occupant.Running r) → ComesToIn stands slot lines f result r o after
      → IsLowest (lowest_after lowest slot (is_some result)) (slice_set slots slot o)
  comes_lowest slots lowest slot f None r (Some (occupant.Running q)) lines after old less from to is comes = stays_lowest slots lowest slot (occupant.Running r) (occupant.Running q) old less is
  comes_lowest slots lowest slot f (Some reply) r (Some (occupant.Running q)) lines after old less from to is comes = absurd (none-some reply (sym comes.0))
  comes_lowest slots lowest slot f (Some reply) r None lines after old less from to is comes = gets_lowest slots lowest slot old less from to
  comes_lowest slots lowest slot f None r None lines after old less from to is comes = absurd (true≢false (sym comes.0))
  comes_lowest slots lowest slot f result r (Some (occupant.Refused line refusal)) lines after old less from to is comes = elim comes [ ]

  pub fed_sound : (s : SessionView R) → IsSoundSession stands s → (slot : ℕ) (f : Fed) (result : Option Reply) (o : Option (Occupant R)) (after : LinesView)
      → OfRunning (λ r. ComesToIn stands slot s.lines f result r o after) (held_in slot s.slots) → KeepsToItsLine stands slot o after
      → LeavesOthers slot (lines_of s.lines) (lines_of after) → AreFair (lines_of after) → AreUsed after.entries
      → IsSoundSession stands (record { instance = s.instance; home = s.home; slots = slice_set s.slots slot o; lowest = lowest_after s.lowest slot (is_some result); lines = after })
  fed_sound s sound slot f result o after comes keeps leaves fair used = go (held_in slot s.slots) refl comes
    where
      go : (h : Option (Occupant R)) → held_in slot s.slots ≡ h → OfRunning (λ r. ComesToIn stands slot s.lines f result r o after) h
          → IsSoundSession stands (record { instance = s.instance; home = s.home; slots = slice_set s.slots slot o; lowest = lowest_after s.lowest slot (is_some result); lines = after })
      go (Some (occupant.Running r)) is comes =
          let range = held_range stands s sound slot (occupant.Running r) is in
          let len = sound.slots in
          let to = range.1 in
          set_sound stands s sound slot range.0 range.1 o (lowest_after s.lowest slot (is_some result)) after leaves fair used
          (comes_lowest s.slots s.lowest slot f result r o s.lines after sound.lowest (omega (arith, len, to)) range.0 (omega (arith, to)) is comes)
          (comes_well slot f result r o s.lines after comes keeps)
      go (Some (occupant.Refused line refusal)) is comes = elim comes [ ]
      go None is comes = elim comes [ ]
