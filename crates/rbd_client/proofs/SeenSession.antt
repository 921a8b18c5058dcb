-- What is said of a session by its machines is so of the plans that they follow.
use Rattle.std.proofs.Common.{◌≡◌, ℕ, cond, Bool, true, false, List, map, Option, Some, None, refl, sym, ap, ◌∙◌, subst}
use Rattle.std.proofs.Math.ListN.{get_or-map}
use Rattle.std.proofs.lemmas.List.{length-map}
use Rattle.std.proofs.lemmas.Option.{none-some, same_Some}
use Rattle.std.specs.Option.{option_map}
use Rattle.std.specs.Prelude.{IsSome}
use Rattle.rbd_client.specs.Seen.{as_is, seen_occupant, seen_running, seen_session, seen_slot}
use Rattle.rbd_kinds.specs.declared.layout.Extent.{Extent}
use Rattle.rbd_kinds.specs.declared.machine.Fed.{Fed}
use Rattle.rbd_kinds.specs.declared.reply.Reply.{Reply}
use Rattle.rbd_machine.specs.Label.{Label}
use Rattle.rbd_machine.specs.Path.{at_operation}
use Rattle.rbd_machine.specs.Plan.{Plan, Ask, Await, Note, Return, Goto, Standing, IsAsking, plan_after}
use Rattle.rbd_machine.specs.declared.seat.Seat.{Seat}
use Rattle.rbd_slots.specs.declared.running.Occupant.{Occupant}
use Rattle.rbd_slots.specs.declared.running.Occupant.TheVariants as occupant
use Rattle.rbd_slots.specs.declared.running.Running.{Running}
use Rattle.rbd_slots.specs.Advance.{AdvancesTo, GoesFurther, IsSameStand, fed_by, track_of}
use Rattle.rbd_slots.specs.Lines.{LinesView}
use Rattle.rbd_slots.specs.OnTrack.{IsOnTrack}
use Rattle.rbd_slots.specs.Session.{SessionView, BeginsAt, ComesToIn, IsAlike, IsAlikeIn, IsFed, IsLowest, IsNewcomer, IsSoundSession, OfRunning, going_in, held_in, kind_asked, kind_at, of_going, op_asked, op_at, look_under_lock_at, look_under_lock_in, refusal_in, running_at, running_in, script_line}
use Rattle.rbd_slots.specs.Track.{Track, run}
use Rattle.rbd_slots.specs.Waits.{waits}

-- ---- what is there

pub unseen : {A B : Type 0} (f : A → B) (o : Option A) (y : B) → option_map f o ≡ Some y → (x : A) × (o ≡ Some x) × (f x ≡ y)
unseen f None y is = absurd (none-some y is)
unseen f (Some x) y is = (x, refl, same_Some (f x) y is)

pub nothing_unseen : {A B : Type 0} (f : A → B) (o : Option A) → option_map f o ≡ None → o ≡ None
nothing_unseen f None is = refl
nothing_unseen f (Some x) is = absurd (none-some (f x) (sym is))

pub something_seen : {A B : Type 0} (f : A → B) (o : Option A) → IsSome o → IsSome (option_map f o)
something_seen f None is = is
something_seen f (Some x) is = refl

pub something_unseen : {A B : Type 0} (f : A → B) (o : Option A) → IsSome (option_map f o) → IsSome o
something_unseen f None is = is
something_unseen f (Some x) is = refl

-- what is so of two, is so of two others that are the same
pub of_same : {A : Type 0} (P : A → A → Type 0) (a b c d : A) → a ≡ c → b ≡ d → P a b → P c d
of_same P a b c d one other is = subst (λ x. P x d) one (subst (P a) other is)

module _ {R : Type 0} (stands : R → Standing) where
  -- ---- in a slot

  pub held_seen : (slot : ℕ) (slots : List (Option (Occupant R))) → held_in slot (map (seen_slot stands) slots) ≡ seen_slot stands (held_in slot slots)
  held_seen slot slots = get_or-map (seen_slot stands) slots slot None

  pub running_in_seen : (o : Option (Occupant R)) → running_in (seen_slot stands o) ≡ option_map (seen_running stands) (running_in o)
  running_in_seen None = refl
  running_in_seen (Some (occupant.Refused line refusal)) = refl
  running_in_seen (Some (occupant.Running r)) = refl

  pub running_seen : (slot : ℕ) (s : SessionView R) → running_at slot (seen_session stands s) ≡ option_map (seen_running stands) (running_at slot s)
  running_seen slot s = ap running_in (held_seen slot s.slots) ∙ running_in_seen (held_in slot s.slots)

  -- who runs by the plans, runs
  pub running_unseen : (slot : ℕ) (s : SessionView R) (q : Running Standing) → running_at slot (seen_session stands s) ≡ Some q
      → (r : Running R) × (running_at slot s ≡ Some r) × (seen_running stands r ≡ q)
  running_unseen slot s q is = unseen (seen_running stands) (running_at slot s) q (sym (running_seen slot s) ∙ is)

  running_is_seen : (slot : ℕ) (s : SessionView R) (r : Running R) → running_at slot s ≡ Some r → running_at slot (seen_session stands s) ≡ Some (seen_running stands r)
  running_is_seen slot s r is = running_seen slot s ∙ ap (option_map (seen_running stands)) is

  pub line_seen : (o : Option (Occupant R)) → script_line (seen_slot stands o) ≡ script_line o
  line_seen None = refl
  line_seen (Some (occupant.Refused line refusal)) = refl
  line_seen (Some (occupant.Running r)) = refl

  pub refusal_seen : (o : Option (Occupant R)) → refusal_in (seen_slot stands o) ≡ refusal_in o
  refusal_seen None = refl
  refusal_seen (Some (occupant.Refused line refusal)) = refl
  refusal_seen (Some (occupant.Running r)) = refl

  -- a slot that holds what it held
  pub same_slot_seen : (slot : ℕ) (old new : List (Option (Occupant R))) → held_in slot new ≡ held_in slot old
      → held_in slot (map (seen_slot stands) new) ≡ held_in slot (map (seen_slot stands) old)
  same_slot_seen slot old new is = held_seen slot new ∙ ap (seen_slot stands) is ∙ sym (held_seen slot old)

  pub free_slot_seen : (slot : ℕ) (slots : List (Option (Occupant R))) → held_in slot slots ≡ None → held_in slot (map (seen_slot stands) slots) ≡ None
  free_slot_seen slot slots is = held_seen slot slots ∙ ap (seen_slot stands) is

  pub free_slot_unseen : (slot : ℕ) (slots : List (Option (Occupant R))) → held_in slot (map (seen_slot stands) slots) ≡ None → held_in slot slots ≡ None
  free_slot_unseen slot slots is = nothing_unseen (seen_occupant stands) (held_in slot slots) (sym (held_seen slot slots) ∙ is)

  -- ---- what a slot wants

  going_seen : (slot : ℕ) (o : Option (Occupant R)) (lines : LinesView) → going_in slot (seen_slot stands o) lines ≡ option_map (seen_running stands) (going_in slot o lines)
  going_seen slot None lines = refl
  going_seen slot (Some (occupant.Refused line refusal)) lines = refl
  going_seen slot (Some (occupant.Running r)) lines = by (waits slot (track_of r lines))
    where
      by : (b : Bool) → cond b None (Some (seen_running stands r)) ≡ option_map (seen_running stands) (cond b None (Some r))
      by true = refl
      by false = refl

  of_going_seen : {T : Type 0} (asked : Plan → Option T) (o : Option (Running R)) → of_going as_is asked (option_map (seen_running stands) o) ≡ of_going stands asked o
  of_going_seen asked None = refl
  of_going_seen asked (Some r) = refl

  asked_seen : {T : Type 0} (asked : Plan → Option T) (slot : ℕ) (s : SessionView R)
      → of_going as_is asked (going_in slot (held_in slot (map (seen_slot stands) s.slots)) s.lines) ≡ of_going stands asked (going_in slot (held_in slot s.slots) s.lines)
  asked_seen asked slot s =
      ap (λ (o : Option (Occupant Standing)). of_going as_is asked (going_in slot o s.lines)) (held_seen slot s.slots)
      ∙ ap (of_going as_is asked) (going_seen slot (held_in slot s.slots) s.lines)
      ∙ of_going_seen asked (going_in slot (held_in slot s.slots) s.lines)

  pub kind_seen : (slot : ℕ) (s : SessionView R) → kind_at as_is slot (seen_session stands s) ≡ kind_at stands slot s
  kind_seen slot s = asked_seen kind_asked slot s

  pub op_seen : (slot : ℕ) (s : SessionView R) → op_at as_is slot (seen_session stands s) ≡ op_at stands slot s
  op_seen slot s = asked_seen op_asked slot s

  look_of_seen : (slot : ℕ) (lines : LinesView) (o : Option (Running R)) → look_under_lock_in as_is slot lines (option_map (seen_running stands) o) ≡ look_under_lock_in stands slot lines o
  look_of_seen slot lines None = refl
  look_of_seen slot lines (Some r) = refl

  pub look_seen : (slot : ℕ) (s : SessionView R) → look_under_lock_at as_is slot (seen_session stands s) ≡ look_under_lock_at stands slot s
  look_seen slot s =
      ap (λ (o : Option (Occupant Standing)). look_under_lock_in as_is slot s.lines (going_in slot o s.lines)) (held_seen slot s.slots)
      ∙ ap (look_under_lock_in as_is slot s.lines) (going_seen slot (held_in slot s.slots) s.lines)
      ∙ look_of_seen slot s.lines (going_in slot (held_in slot s.slots) s.lines)

  -- ---- a sound session

  lowest_seen : (s : SessionView R) → IsLowest s.lowest s.slots → IsLowest s.lowest (map (seen_slot stands) s.slots)
  lowest_seen s lowest = record {
    some = lowest.some;
    most = lowest.most;
    below = λ slot from to. subst IsSome (sym (held_seen slot s.slots)) (something_seen (seen_occupant stands) (held_in slot s.slots) (lowest.below slot from to));
    free = free_slot_seen s.lowest s.slots lowest.free;
  }

  pub session_sound_seen : (s : SessionView R) → IsSoundSession stands s → IsSoundSession as_is (seen_session stands s)
  session_sound_seen s sound = record {
    slots = length-map s.slots (seen_slot stands) ∙ sound.slots;
    zero = free_slot_seen 0 s.slots sound.zero;
    lowest = lowest_seen s sound.lowest;
    runs = λ slot q is. runs slot q (running_unseen slot s q is);
    asks = λ slot q is. asks slot q (running_unseen slot s q is);
    others = λ slot none site image. sound.others slot (nothing_unseen (seen_running stands) (running_at slot s) (sym (running_seen slot s) ∙ none)) site image;
    fair = sound.fair;
    used = sound.used;
  }
    where
      runs : (slot : ℕ) (q : Running Standing) → (r : Running R) × (running_at slot s ≡ Some r) × (seen_running stands r ≡ q) → IsOnTrack slot q.extent true q.request (track_of q s.lines)
      runs slot q at = subst (λ (q : Running Standing). IsOnTrack slot q.extent true q.request (track_of q s.lines)) at.2 (sound.runs slot at.0 at.1)

      asks : (slot : ℕ) (q : Running Standing) → (r : Running R) × (running_at slot s ≡ Some r) × (seen_running stands r ≡ q) → IsAsking q.request.plan
      asks slot q at = subst (λ (q : Running Standing). IsAsking q.request.plan) at.2 (sound.asks slot at.0 at.1)

  pub session_sound_unseen : (s : SessionView R) → IsSoundSession as_is (seen_session stands s) → IsSoundSession stands s
  session_sound_unseen s sound = record {
    slots = sym (length-map s.slots (seen_slot stands)) ∙ sound.slots;
    zero = free_slot_unseen 0 s.slots sound.zero;
    lowest = record {
      some = sound.lowest.some;
      most = sound.lowest.most;
      below = λ slot from to. something_unseen (seen_occupant stands) (held_in slot s.slots) (subst IsSome (held_seen slot s.slots) (sound.lowest.below slot from to));
      free = free_slot_unseen s.lowest s.slots sound.lowest.free;
    };
    runs = λ slot r is. sound.runs slot (seen_running stands r) (running_is_seen slot s r is);
    asks = λ slot r is. sound.asks slot (seen_running stands r) (running_is_seen slot s r is);
    others = λ slot none. sound.others slot (running_seen slot s ∙ ap (option_map (seen_running stands)) none);
    fair = sound.fair;
    used = sound.used;
  }

  -- ---- a session that stays as it is but for what its requests are ready for

  stand_seen : (r q : Running R) → IsSameStand stands r q → IsSameStand as_is (seen_running stands r) (seen_running stands q)
  stand_seen r q same = record { same = same.same; line = same.line; extent = same.extent; place = same.place; turn = same.turn }

  alike_in_seen : (o n : Option (Occupant R)) → IsAlikeIn stands o n → IsAlikeIn as_is (seen_slot stands o) (seen_slot stands n)
  alike_in_seen None n same = ap (seen_slot stands) same
  alike_in_seen (Some (occupant.Refused line refusal)) n same = ap (seen_slot stands) same
  alike_in_seen (Some (occupant.Running r)) None same = ap (seen_slot stands) same
  alike_in_seen (Some (occupant.Running r)) (Some (occupant.Refused line refusal)) same = ap (seen_slot stands) same
  alike_in_seen (Some (occupant.Running r)) (Some (occupant.Running q)) same = stand_seen r q same

  pub session_alike_seen : (old new : SessionView R) → IsAlike stands old new → IsAlike as_is (seen_session stands old) (seen_session stands new)
  session_alike_seen old new alike = record {
    instance = alike.instance;
    home = alike.home;
    lowest = alike.lowest;
    slots = λ slot. of_same (IsAlikeIn as_is) _ _ _ _ (sym (held_seen slot old.slots)) (sym (held_seen slot new.slots))
        (alike_in_seen (held_in slot old.slots) (held_in slot new.slots) (alike.slots slot));
    lines = alike.lines;
  }

  -- ---- a request at its beginning

  begins_seen : {W : Type 0} (stands_for : Seat → W → Standing → Type 0) (extent_for : W → Option Extent) (seat : Seat) (line : ℕ) (work : W) (r : Running R)
      → BeginsAt stands stands_for extent_for seat line work r → BeginsAt as_is stands_for extent_for seat line work (seen_running stands r)
  begins_seen stands_for extent_for seat line work r at = record {
    is_line = at.is_line;
    stands_there = at.stands_there;
    asks = at.asks;
    extent = at.extent;
    place = at.place;
    turn = at.turn;
  }

  newcomer_in_seen : {W : Type 0} (stands_for : Seat → W → Standing → Type 0) (extent_for : W → Option Extent) (seat : Seat) (line : ℕ) (work : W) (o : Option (Occupant R))
      → IsNewcomer stands stands_for extent_for seat line work o → IsNewcomer as_is stands_for extent_for seat line work (seen_slot stands o)
  newcomer_in_seen stands_for extent_for seat line work None at = at
  newcomer_in_seen stands_for extent_for seat line work (Some (occupant.Refused number refusal)) at = at
  newcomer_in_seen stands_for extent_for seat line work (Some (occupant.Running r)) at = begins_seen stands_for extent_for seat line work r at

  pub newcomer_seen : {W : Type 0} (stands_for : Seat → W → Standing → Type 0) (extent_for : W → Option Extent) (seat : Seat) (line : ℕ) (work : W) (slot : ℕ) (slots : List (Option (Occupant R)))
      → IsNewcomer stands stands_for extent_for seat line work (held_in slot slots) → IsNewcomer as_is stands_for extent_for seat line work (held_in slot (map (seen_slot stands) slots))
  newcomer_seen stands_for extent_for seat line work slot slots at =
      subst (IsNewcomer as_is stands_for extent_for seat line work) (sym (held_seen slot slots)) (newcomer_in_seen stands_for extent_for seat line work (held_in slot slots) at)

  -- ---- what a request is fed

  further_seen : (slot : ℕ) (to : Standing) (t : Track) (result : Option Reply) (r q : Running R) (lines : LinesView)
      → GoesFurther stands slot to t result r q lines → GoesFurther as_is slot to t result (seen_running stands r) (seen_running stands q) lines
  further_seen slot to t result r q lines goes = record {
    none = goes.none;
    line = goes.line;
    extent = goes.extent;
    looked = goes.looked;
    request = goes.request;
    track = goes.track;
    asks = goes.asks;
  }

  comes_seen : (slot : ℕ) (labels : Label → Plan) (plan : Plan) (t : Track) (result : Option Reply) (r q : Running R) (lines : LinesView)
      → AdvancesTo stands slot labels plan t result r q lines → AdvancesTo as_is slot labels plan t result (seen_running stands r) (seen_running stands q) lines
  comes_seen slot labels (Return reply) t result r q lines comes = comes
  comes_seen slot labels (Ask site why o next) t result r q lines comes = further_seen slot (record { labels = labels; plan = Ask site why o next }) t result r q lines comes
  comes_seen slot labels (Await w next) t result r q lines comes = further_seen slot (record { labels = labels; plan = Await w next }) t result r q lines comes
  comes_seen slot labels (Note site image event next) t result r q lines comes = further_seen slot (record { labels = labels; plan = Note site image event next }) t result r q lines comes
  comes_seen slot labels (Goto label) t result r q lines comes = further_seen slot (record { labels = labels; plan = Goto label }) t result r q lines comes

  comes_in_seen : (slot : ℕ) (lines : LinesView) (f : Fed) (result : Option Reply) (r : Running R) (n : Option (Occupant R)) (after : LinesView)
      → ComesToIn stands slot lines f result r n after → ComesToIn as_is slot lines f result (seen_running stands r) (seen_slot stands n) after
  comes_in_seen slot lines f result r None after comes = (
    comes.0,
    comes_seen slot (stands r.request).labels (at_operation (stands r.request).labels (plan_after (stands r.request).plan f))
        (run slot (plan_after (stands r.request).plan f) (fed_by slot r.extent (track_of r lines) (stands r.request).plan f)) result r r after comes.1,
  )
  comes_in_seen slot lines f result r (Some (occupant.Refused line refusal)) after comes = comes
  comes_in_seen slot lines f result r (Some (occupant.Running q)) after comes = (
    comes.0,
    comes_seen slot (stands r.request).labels (at_operation (stands r.request).labels (plan_after (stands r.request).plan f))
        (run slot (plan_after (stands r.request).plan f) (fed_by slot r.extent (track_of r lines) (stands r.request).plan f)) result r q after comes.1,
  )

  fed_in_seen : (slot : ℕ) (f : Fed) (result : Option Reply) (lines : LinesView) (o n : Option (Occupant R)) (after : LinesView)
      → OfRunning (λ r. ComesToIn stands slot lines f result r n after) o → OfRunning (λ r. ComesToIn as_is slot lines f result r (seen_slot stands n) after) (seen_slot stands o)
  fed_in_seen slot f result lines None n after fed = fed
  fed_in_seen slot f result lines (Some (occupant.Refused line refusal)) n after fed = fed
  fed_in_seen slot f result lines (Some (occupant.Running r)) n after fed = comes_in_seen slot lines f result r n after fed

  pub fed_seen : (slot : ℕ) (f : Fed) (result : Option Reply) (old new : SessionView R) → IsFed stands slot f result old new → IsFed as_is slot f result (seen_session stands old) (seen_session stands new)
  fed_seen slot f result old new fed =
      of_same (λ (o n : Option (Occupant Standing)). OfRunning (λ r. ComesToIn as_is slot old.lines f result r n new.lines) o) _ _ _ _
      (sym (held_seen slot old.slots)) (sym (held_seen slot new.slots))
      (fed_in_seen slot f result old.lines (held_in slot old.slots) (held_in slot new.slots) new.lines fed)
