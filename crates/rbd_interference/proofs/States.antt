-- Lists of states: one that is set, one that is told in bits, and one that was lengthened.
use Rattle.std.proofs.Common.{◌≡◌, ◌≢◌, ◌⊎◌, inl, inr, ℕ, suc, ◌+◌, ◌-◌, ◌*◌, ◌/◌, ◌<◌, ◌≤◌, ◌==◌, Bool, true, false, cond, not, List, [], ◌∷◌, filter, length, get_or, replicate, set, unwrap_or, Option, Some, None, option_map, refl, sym, ap, ◌∙◌, subst, arith, length-append}
use Rattle.std.proofs.lemmas.Bool.{cases_eq, cases_lt, eq-eqb, eqb-true, ne_eqb, true≢false}
use Rattle.std.proofs.lemmas.Option.{same_Some}
use Rattle.std.proofs.lemmas.List.{get_or_append_left, get_or-append_right, get_or_past, get_or-replicate, get_or-set_same, get_or-set_other, length-replicate, length-set}
use Rattle.std.proofs.lemmas.List.FromFn.{get_or-map-range_with_len}
use Rattle.rbd_kinds.specs.States.{state_at}
use Rattle.rbd_machine.specs.Knowledge.{Mark, is_mark, is_raised, marks_after}
use Rattle.rbd_map.specs.States.{bits_of, states_of}
use Rattle.rbd_map.proofs.Packing.{length-bits_of, length-states_of, state_at-bits_of}
use Rattle.rbd_site.specs.InForm.{IsMapInForm}
use Rattle.rbd_site.specs.MapStep.{lengthened}
use Rattle.rbd_interference.specs.Truth.{AreStatesOf, IsCountTrue, map_state_in}

-- ---- a state is set

pub raised_now : (states : List ℕ) (object state : ℕ) → object < length states → 0 < state → get_or (set states object state) object 0 ≢ 0
raised_now states object state within raises zeroed = let e = get_or-set_same states object state 0 within in omega (arith, e, zeroed, raises)

-- that of another object stays
pub set_elsewhere : (map : Option (List ℕ)) (object state n : ℕ) → n ≢ object → map_state_in map n ≢ 0 → map_state_in (option_map (λ states. set states object state) map) n ≢ 0
set_elsewhere None object state n other was = was
set_elsewhere (Some states) object state n other was = λ zeroed. was (sym (get_or-set_other states object n state 0 other) ∙ zeroed)

-- and a state that isn't 0 leaves none that is
pub set_above : (map : Option (List ℕ)) (object state n : ℕ) → map_state_in map n ≢ 0 → map_state_in (option_map (λ states. set states object (suc state)) map) n ≢ 0
set_above None object state n was = was
set_above (Some states) object state n was = by (cases_eq n object) (cases_lt object (length states))
  where
    by : (n ≡ object) ⊎ (n ≢ object) → (object < length states) ⊎ (length states ≤ object) → get_or (set states object (suc state)) n 0 ≢ 0
    by (inl same) (inl within) = λ zeroed. raised_now states object (suc state) within (omega arith) (ap (λ i. get_or (set states object (suc state)) i 0) (sym same) ∙ zeroed)
    by (inl same) (inr past) = λ zeroed. was (ap (λ i. get_or states i 0) same ∙ get_or_past states object 0 past)
    by (inr other) within = set_elsewhere (Some states) object (suc state) n other was

-- what wasn't 0 isn't
pub raised_still : (states : List ℕ) (object state n : ℕ) → object < length states → 0 < state → get_or states n 0 ≢ 0 → get_or (set states object state) n 0 ≢ 0
raised_still states object state n within raises was = by (cases_eq n object)
  where
    by : (n ≡ object) ⊎ (n ≢ object) → get_or (set states object state) n 0 ≢ 0
    by (inl same) = λ zeroed. raised_now states object state within raises (ap (λ i. get_or (set states object state) i 0) (sym same) ∙ zeroed)
    by (inr other) = set_elsewhere (Some states) object state n other was

-- what is known of a map's states, with the change
pub states_changed : (known there : List ℕ) (object state : ℕ) → object < length there → AreStatesOf known (Some there) → AreStatesOf (set known object state) (Some (set there object state))
states_changed known there object state within are = record {
  there = set there object state;
  is = refl;
  same = λ n. by n (cases_eq n object);
  long = rw (length-set known object state, length-set there object state) is_long;
  few = rw length-set are.few;
}
  where
    is : there ≡ are.there
    is = cc

    is_long : length there ≤ length known
    is_long = subst (λ s. length s ≤ length known) (sym is) are.long

    by : (n : ℕ) → (n ≡ object) ⊎ (n ≢ object) → get_or (set known object state) n 0 ≡ get_or (set there object state) n 0
    by n (inl same) =
        ap (λ i. get_or (set known object state) i 0) same
        ∙ get_or-set_same known object state 0 (omega (arith, within, is_long))
        ∙ sym (get_or-set_same there object state 0 within)
        ∙ ap (λ i. get_or (set there object state) i 0) (sym same)
    by n (inr other) =
        get_or-set_other known object n state 0 other
        ∙ are.same n ∙ ap (λ s. get_or s n 0) (sym is)
        ∙ sym (get_or-set_other there object n state 0 other)

-- a mark that is left is none of the object whose state was set to 0
mark_left : (object n : ℕ) (raised : List Mark) → is_raised None n (filter (λ m. not (is_mark None object m)) raised) ≡ true → (is_raised None n raised ≡ true) × (n ≢ object)
mark_left object n [] is = absurd (true≢false (sym is))
mark_left object n (m ∷ raised) is = by (is_mark None object m) refl (is_mark None n m) refl is (mark_left object n raised)
  where
    rest : List Mark
    rest = filter (λ m. not (is_mark None object m)) raised

    by : (a : Bool) → is_mark None object m ≡ a → (b : Bool) → is_mark None n m ≡ b → is_raised None n (cond (not a) (m ∷ rest) rest) ≡ true
        → (is_raised None n rest ≡ true → (is_raised None n raised ≡ true) × (n ≢ object)) → (cond b true (is_raised None n raised) ≡ true) × (n ≢ object)
    by true here true there is more = (refl, (more is).1)
    by true here false there is more = more is
    by false here true there is more = (refl, λ same. true≢false (sym there ∙ ap (λ i. is_mark None i m) same ∙ here))
    by false here false there is more = more (sym (ap (λ b. cond b true (is_raised None n rest)) there) ∙ is)

-- What is known of a mark behind a change: it is the new one, or was there, and then its object is
-- another one or its state isn't 0.
pub data IsMarked (object state n : ℕ) (raised : List Mark) : Type 0 where
  IsNew : object ≡ n → 0 < state → IsMarked object state n raised
  WasThere : is_raised None n raised ≡ true → (0 < state) ⊎ (n ≢ object) → IsMarked object state n raised

pub was_marked : (object state n : ℕ) (raised : List Mark) → is_raised None n (marks_after None object state raised) ≡ true → IsMarked object state n raised
was_marked object state n raised is = of (cases_eq state 0)
  where
    by : (b : Bool) → (object == n) ≡ b → 0 < state → cond b true (is_raised None n raised) ≡ true → IsMarked object state n raised
    by true same raises is = IsNew (eqb-true object n same) raises
    by false other raises is = WasThere is (inl raises)

    now : (b : Bool) → (state == 0) ≡ b → is_raised None n (cond b (filter (λ m. not (is_mark None object m)) raised) (record { view = None; object = object } ∷ raised)) ≡ true
    now b same = ap (λ c. is_raised None n (cond c (filter (λ m. not (is_mark None object m)) raised) (record { view = None; object = object } ∷ raised))) (sym same) ∙ is

    of : (state ≡ 0) ⊎ (state ≢ 0) → IsMarked object state n raised
    of (inl zeroed) = let (was, other) = mark_left object n raised (now true (eq-eqb state 0 zeroed)) in WasThere was (inr other)
    of (inr raises) = by (object == n) refl (omega (arith, raises)) (now false (ne_eqb state 0 raises))

-- a mark that is left on a list was on it
left_raised : (p : Mark → Bool) (view : Option ℕ) (n : ℕ) (raised : List Mark) → is_raised view n (filter p raised) ≡ true → is_raised view n raised ≡ true
left_raised p view n [] is = is
left_raised p view n (m ∷ raised) is = by (p m) (is_mark view n m) refl is (left_raised p view n raised)
  where
    rest : List Mark
    rest = filter p raised

    by : (a b : Bool) → is_mark view n m ≡ b → is_raised view n (cond a (m ∷ rest) rest) ≡ true → (is_raised view n rest ≡ true → is_raised view n raised ≡ true) → cond b true (is_raised view n raised) ≡ true
    by a true there is more = refl
    by true false there is more = more (sym (ap (λ b. cond b true (is_raised view n rest)) there) ∙ is)
    by false false there is more = more is

-- what is set of the head's map leaves the marks of snapshots
pub marked_apart : (object state snap n : ℕ) (raised : List Mark) → is_raised (Some snap) n (marks_after None object state raised) ≡ true → is_raised (Some snap) n raised ≡ true
marked_apart object state snap n raised is = by (state == 0) is
  where
    by : (b : Bool) → is_raised (Some snap) n (cond b (filter (λ m. not (is_mark None object m)) raised) (record { view = None; object = object } ∷ raised)) ≡ true → is_raised (Some snap) n raised ≡ true
    by true is = left_raised (λ m. not (is_mark None object m)) (Some snap) n raised is
    by false is = is

-- ---- states are told

pub states_told : (states : List ℕ) → IsMapInForm states → AreStatesOf (states_of (bits_of states) (4 * length (bits_of states))) (Some states)
states_told states form = record {
  there = states;
  is = refl;
  same = λ n. by n (cases_lt n (4 * length (bits_of states)));
  long = rw told_length (omega (arith, bytes));
  few = rw told_length (omega (arith, bytes, form.few));
}
  where
    bytes : length (bits_of states) ≡ (length states + 3) / 4
    bytes = length-bits_of states

    told_length : length (states_of (bits_of states) (4 * length (bits_of states))) ≡ 4 * length (bits_of states)
    told_length = length-states_of (bits_of states) (4 * length (bits_of states))

    by : (n : ℕ) → (n < 4 * length (bits_of states)) ⊎ (4 * length (bits_of states) ≤ n) → get_or (states_of (bits_of states) (4 * length (bits_of states))) n 0 ≡ get_or states n 0
    by n (inl within) = get_or-map-range_with_len (state_at (bits_of states)) 0 (4 * length (bits_of states)) n n 0 within (omega arith) ∙ state_at-bits_of states n form.are
    by n (inr past) =
        get_or_past (states_of (bits_of states) (4 * length (bits_of states))) n 0 (rw told_length past)
        ∙ sym (get_or_past states n 0 (omega (arith, past, bytes)))

-- ---- a map is lengthened

pub long_enough : (count : ℕ) (states : List ℕ) → count ≤ length (lengthened count states)
long_enough count states = rw (length-append, length-replicate) (omega arith)

pub count_kept : (known : Option ℕ) (there now : List ℕ) → length there ≤ length now → IsCountTrue known (Some there) → IsCountTrue known (Some now)
count_kept None there now long was = tt
count_kept (Some count) there now long was =
    let at_least = was.long in
    let same : length was.there ≡ length there = ap length (sym (same_Some there was.there was.is)) in
    record { there = now; is = refl; long = omega (arith, at_least, same, long) }

-- and what is behind its states are zeros
only_zeros : (more n : ℕ) → get_or {A = ℕ} (replicate more 0) n 0 ≡ 0
only_zeros more n = by (cases_lt n more)
  where
    by : (n < more) ⊎ (more ≤ n) → get_or {A = ℕ} (replicate more 0) n 0 ≡ 0
    by (inl within) = get_or-replicate more n 0 0 within
    by (inr past) = get_or_past (replicate more 0) n 0 (rw length-replicate past)

pub lengthened_state : (map : Option (List ℕ)) (count n : ℕ) → map_state_in (Some (lengthened count (unwrap_or map []))) n ≡ map_state_in map n
lengthened_state None count n = only_zeros (count - 0) n
lengthened_state (Some states) count n = by (cases_lt n (length states))
  where
    more : ℕ
    more = count - length states

    by : (n < length states) ⊎ (length states ≤ n) → get_or (lengthened count states) n 0 ≡ get_or states n 0
    by (inl within) = get_or_append_left states (replicate more 0) 0 n within
    by (inr past) = get_or-append_right states (replicate more 0) (length states) n 0 refl past ∙ only_zeros more (n - length states) ∙ sym (get_or_past states n 0 past)
