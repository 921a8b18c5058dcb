-- States in bytes.
use Rattle.std.proofs.Common.{◌≡◌, ℕ, zero, suc, ◌+◌, ◌-◌, ◌*◌, ◌/◌, ◌%◌, ◌<◌, ◌≤◌, Bool, cond, List, [], ◌∷◌, ◌++◌, length, get_or, set, take, min, replicate, refl, sym, ap, subst, ◌∙◌, inl, inr, true, ◌&&◌, add-zero, length-append, arith}
use Rattle.std.specs.List.{list_all, count_by}
use Rattle.std.proofs.lemmas.Bool.{cases_lt, cases_eq, ltb-true, lt-ltb, and_parts}
use Rattle.std.specs.Cmp.Derive.{both_true}
use Rattle.std.proofs.lemmas.List.Sums.{AllPass-from_list_all, count_by-le-length, sum_by-append}
use Rattle.std.proofs.lemmas.List.Elements.{All-get_or}
use Rattle.std.proofs.lemmas.List.Folds.{list_all-append}
use Rattle.std.proofs.lemmas.List.{length-replicate, get_or-replicate, get_or_past, get_or-take, length-take-le, take_all, get_or-set_same, get_or-set_other, length-set}
use Rattle.std.proofs.lemmas.List.FromFn.{fill_by_all, length-map-range_with_len, get_or-map-range_with_len, take-map-range_with_len, map-range_with_len_more}
use Rattle.rbd_kinds.specs.States.{HoldStates, is_state, weight, state_at}
use Rattle.rbd_map.specs.States.{is_used, AreStates, byte_of, bits_of, states_of, IsPacked}

-- a map of these bytes, opened
pub length_packed : (bytes : List ℕ) (count : ℕ) → IsPacked bytes count → length bytes ≡ (count + 3) / 4
length_packed bytes count p =
    ap length p.packed ∙ length-map-range_with_len (byte_of (states_of bytes count)) 0 _
    ∙ ap (λ n. (n + 3) / 4) (length-map-range_with_len (state_at bytes) 0 count)

pub length-bits_of : (states : List ℕ) → length (bits_of states) ≡ (length states + 3) / 4
length-bits_of states = length-map-range_with_len (byte_of states) 0 _

byte_of-past : (states : List ℕ) (k : ℕ) → (length states + 3) / 4 ≤ k → byte_of states k ≡ 0
byte_of-past states k h =
    let a : get_or states (4 * k) 0 ≡ 0 = get_or_past states (4 * k) 0 (omega arith) in
    let b : get_or states (4 * k + 1) 0 ≡ 0 = get_or_past states (4 * k + 1) 0 (omega arith) in
    let c : get_or states (4 * k + 2) 0 ≡ 0 = get_or_past states (4 * k + 2) 0 (omega arith) in
    let d : get_or states (4 * k + 3) 0 ≡ 0 = get_or_past states (4 * k + 3) 0 (omega arith) in
    omega arith

pub get_or-bits_of : (states : List ℕ) (k : ℕ) → get_or (bits_of states) k 0 ≡ byte_of states k
get_or-bits_of states k =
    elim (cases_lt k ((length states + 3) / 4)) [
      | inl h ↦ get_or-map-range_with_len (byte_of states) 0 _ k k 0 h (omega arith)
      | inr h ↦ get_or_past (bits_of states) k 0 (rw (length-bits_of states) h) ∙ sym (byte_of-past states k h)
    ]

-- ---- the state at a place of a byte

digit_0 : (a b c d : ℕ) → a < 4 → b < 4 → c < 4 → d < 4 → (64 * a + 16 * b + 4 * c + d) / 64 % 4 ≡ a
digit_0 a b c d ha hb hc hd = omega arith

digit_1 : (a b c d : ℕ) → a < 4 → b < 4 → c < 4 → d < 4 → (64 * a + 16 * b + 4 * c + d) / 16 % 4 ≡ b
digit_1 a b c d ha hb hc hd = omega arith

digit_2 : (a b c d : ℕ) → a < 4 → b < 4 → c < 4 → d < 4 → (64 * a + 16 * b + 4 * c + d) / 4 % 4 ≡ c
digit_2 a b c d ha hb hc hd = omega arith

digit_3 : (a b c d : ℕ) → a < 4 → b < 4 → c < 4 → d < 4 → (64 * a + 16 * b + 4 * c + d) / 1 % 4 ≡ d
digit_3 a b c d ha hb hc hd = omega arith

pub digits : (b : ℕ) → b < 256 → 64 * (b / 64 % 4) + 16 * (b / 16 % 4) + 4 * (b / 4 % 4) + b / 1 % 4 ≡ b
digits b h = omega arith

pub below_3 : (states : List ℕ) → AreStates states → (i : ℕ) → get_or states i 0 < 3
below_3 states h i =
    elim (cases_lt i (length states)) [
      | inl within ↦ ltb-true _ _ (All-get_or (λ x. is_state x ≡ true) states i 0 within (AllPass-from_list_all is_state states h))
      | inr past ↦ (let e : get_or states i 0 ≡ 0 = get_or_past states i 0 past in omega arith)
    ]

pub state_in_byte : (states : List ℕ) → AreStates states → (k r : ℕ) → r < 4 → byte_of states k / weight r % 4 ≡ get_or states (4 * k + r) 0
state_in_byte states h k zero l =
    rw add-zero
    (digit_0 (get_or states (4 * k) 0) (get_or states (4 * k + 1) 0) (get_or states (4 * k + 2) 0) (get_or states (4 * k + 3) 0)
    (omega (arith, below_3 states h (4 * k))) (omega (arith, below_3 states h (4 * k + 1))) (omega (arith, below_3 states h (4 * k + 2))) (omega (arith, below_3 states h (4 * k + 3))))
state_in_byte states h k (suc zero) l =
    digit_1 (get_or states (4 * k) 0) (get_or states (4 * k + 1) 0) (get_or states (4 * k + 2) 0) (get_or states (4 * k + 3) 0)
    (omega (arith, below_3 states h (4 * k))) (omega (arith, below_3 states h (4 * k + 1))) (omega (arith, below_3 states h (4 * k + 2))) (omega (arith, below_3 states h (4 * k + 3)))
state_in_byte states h k (suc (suc zero)) l =
    digit_2 (get_or states (4 * k) 0) (get_or states (4 * k + 1) 0) (get_or states (4 * k + 2) 0) (get_or states (4 * k + 3) 0)
    (omega (arith, below_3 states h (4 * k))) (omega (arith, below_3 states h (4 * k + 1))) (omega (arith, below_3 states h (4 * k + 2))) (omega (arith, below_3 states h (4 * k + 3)))
state_in_byte states h k (suc (suc (suc zero))) l =
    digit_3 (get_or states (4 * k) 0) (get_or states (4 * k + 1) 0) (get_or states (4 * k + 2) 0) (get_or states (4 * k + 3) 0)
    (omega (arith, below_3 states h (4 * k))) (omega (arith, below_3 states h (4 * k + 1))) (omega (arith, below_3 states h (4 * k + 2))) (omega (arith, below_3 states h (4 * k + 3)))
state_in_byte states h k (suc (suc (suc (suc r)))) l = absurd (omega arith)

pub state_at-bits_of : (states : List ℕ) (object : ℕ) → AreStates states → state_at (bits_of states) object ≡ get_or states object 0
state_at-bits_of states object h =
    ap (λ b. b / weight (object % 4) % 4) (get_or-bits_of states (object / 4))
    ∙ state_in_byte states h (object / 4) (object % 4) (omega arith)
    ∙ ap (λ i. get_or states i 0) (omega arith)

pub hold_states : (states : List ℕ) → AreStates states → HoldStates (bits_of states)
hold_states states are object =
    subst (λ s. is_state s ≡ true) (sym (state_at-bits_of states object are)) (lt-ltb (get_or states object 0) 3 (below_3 states are object))

pub states_of-bits_of : (states : List ℕ) → AreStates states → states_of (bits_of states) (length states) ≡ states
states_of-bits_of states h = sym (fill_by_all (state_at (bits_of states)) states (length states) 0 refl (λ k l. sym (state_at-bits_of states k h)))

-- bytes that are those of some states
pub states_back : (bytes states : List ℕ) (count : ℕ) → bytes ≡ bits_of states → length states ≡ count → AreStates states → states_of bytes count ≡ states
states_back bytes states count b n h = rw (b, ← n) (states_of-bits_of states h)

pub is_packed : (bytes states : List ℕ) (count : ℕ) → bytes ≡ bits_of states → length states ≡ count → AreStates states → IsPacked bytes count
is_packed bytes states count b n h =
    let back : states_of bytes count ≡ states = states_back bytes states count b n h in
    record { packed = b ∙ ap bits_of (sym back); states = rw back h }

-- ---- growth

padded : (xs : List ℕ) (n k : ℕ) → get_or (xs ++ replicate n 0) k 0 ≡ get_or xs k 0
padded [] n k = elim (cases_lt k n) [
  | inl h ↦ get_or-replicate n k 0 0 h
  | inr h ↦ get_or_past (replicate n 0) k 0 (rw length-replicate h)
]
padded (x ∷ xs) n zero = refl
padded (x ∷ xs) n (suc k) = padded xs n k

byte_of-padded : (states : List ℕ) (n k : ℕ) → byte_of (states ++ replicate n 0) k ≡ byte_of states k
byte_of-padded states n k = rw (padded states n (4 * k), padded states n (4 * k + 1), padded states n (4 * k + 2), padded states n (4 * k + 3)) refl

pub bits_of-padded : (states : List ℕ) (n m : ℕ) → (length states + 3) / 4 + m ≡ (length states + n + 3) / 4 → bits_of states ++ replicate m 0 ≡ bits_of (states ++ replicate n 0)
bits_of-padded states n m e =
    fill_by_all (byte_of (states ++ replicate n 0)) (bits_of states ++ replicate m 0) _ 0
    (simp (length-append, length-replicate, length-bits_of states) e)
    (λ k h. padded (bits_of states) m k ∙ get_or-bits_of states k ∙ sym (byte_of-padded states n k))

pub are_states-padded : (states : List ℕ) (n : ℕ) → AreStates states → AreStates (states ++ replicate n 0)
are_states-padded states n h = list_all-append is_state states (replicate n 0) ∙ ap (λ b. b && list_all is_state (replicate n 0)) h ∙ zeros n where
  zeros : (n : ℕ) → list_all is_state (replicate n 0) ≡ true
  zeros zero = refl
  zeros (suc n) = zeros n

-- ---- one state changed

is_new : (states : List ℕ) (object state i : ℕ) → object < length states → object ≡ i → get_or (set states object state) i 0 ≡ state
is_new states object state i h e = rw (← e) (get_or-set_same states object state 0 h)

stays : (states : List ℕ) (object state i : ℕ) → (i ≡ object → ⊥) → get_or (set states object state) i 0 ≡ get_or states i 0
stays states object state i h = get_or-set_other states object i state 0 h

byte_stays : (states : List ℕ) (object state k : ℕ) → (k ≡ object / 4 → ⊥) → byte_of states k ≡ byte_of (set states object state) k
byte_stays states object state k h =
    let a : get_or (set states object state) (4 * k) 0 ≡ get_or states (4 * k) 0 = stays states object state (4 * k) (λ e. h (omega arith)) in
    let b : get_or (set states object state) (4 * k + 1) 0 ≡ get_or states (4 * k + 1) 0 = stays states object state (4 * k + 1) (λ e. h (omega arith)) in
    let c : get_or (set states object state) (4 * k + 2) 0 ≡ get_or states (4 * k + 2) 0 = stays states object state (4 * k + 2) (λ e. h (omega arith)) in
    let d : get_or (set states object state) (4 * k + 3) 0 ≡ get_or states (4 * k + 3) 0 = stays states object state (4 * k + 3) (λ e. h (omega arith)) in
    omega arith

pub byte_changes : (states : List ℕ) (object state k r : ℕ) → r < 4 → object ≡ 4 * k + r → object < length states
    → byte_of states k - get_or states object 0 * weight r + state * weight r ≡ byte_of (set states object state) k
byte_changes states object state k zero l e h =
    let o : get_or states object 0 ≡ get_or states (4 * k) 0 = ap (λ i. get_or states i 0) (omega arith) in
    let a : get_or (set states object state) (4 * k) 0 ≡ state = is_new states object state (4 * k) h (omega arith) in
    let b : get_or (set states object state) (4 * k + 1) 0 ≡ get_or states (4 * k + 1) 0 = stays states object state (4 * k + 1) (λ f. omega arith) in
    let c : get_or (set states object state) (4 * k + 2) 0 ≡ get_or states (4 * k + 2) 0 = stays states object state (4 * k + 2) (λ f. omega arith) in
    let d : get_or (set states object state) (4 * k + 3) 0 ≡ get_or states (4 * k + 3) 0 = stays states object state (4 * k + 3) (λ f. omega arith) in
    omega arith
byte_changes states object state k (suc zero) l e h =
    let o : get_or states object 0 ≡ get_or states (4 * k + 1) 0 = ap (λ i. get_or states i 0) (omega arith) in
    let a : get_or (set states object state) (4 * k) 0 ≡ get_or states (4 * k) 0 = stays states object state (4 * k) (λ f. omega arith) in
    let b : get_or (set states object state) (4 * k + 1) 0 ≡ state = is_new states object state (4 * k + 1) h (omega arith) in
    let c : get_or (set states object state) (4 * k + 2) 0 ≡ get_or states (4 * k + 2) 0 = stays states object state (4 * k + 2) (λ f. omega arith) in
    let d : get_or (set states object state) (4 * k + 3) 0 ≡ get_or states (4 * k + 3) 0 = stays states object state (4 * k + 3) (λ f. omega arith) in
    omega arith
byte_changes states object state k (suc (suc zero)) l e h =
    let o : get_or states object 0 ≡ get_or states (4 * k + 2) 0 = ap (λ i. get_or states i 0) (omega arith) in
    let a : get_or (set states object state) (4 * k) 0 ≡ get_or states (4 * k) 0 = stays states object state (4 * k) (λ f. omega arith) in
    let b : get_or (set states object state) (4 * k + 1) 0 ≡ get_or states (4 * k + 1) 0 = stays states object state (4 * k + 1) (λ f. omega arith) in
    let c : get_or (set states object state) (4 * k + 2) 0 ≡ state = is_new states object state (4 * k + 2) h (omega arith) in
    let d : get_or (set states object state) (4 * k + 3) 0 ≡ get_or states (4 * k + 3) 0 = stays states object state (4 * k + 3) (λ f. omega arith) in
    omega arith
byte_changes states object state k (suc (suc (suc zero))) l e h =
    let o : get_or states object 0 ≡ get_or states (4 * k + 3) 0 = ap (λ i. get_or states i 0) (omega arith) in
    let a : get_or (set states object state) (4 * k) 0 ≡ get_or states (4 * k) 0 = stays states object state (4 * k) (λ f. omega arith) in
    let b : get_or (set states object state) (4 * k + 1) 0 ≡ get_or states (4 * k + 1) 0 = stays states object state (4 * k + 1) (λ f. omega arith) in
    let c : get_or (set states object state) (4 * k + 2) 0 ≡ get_or states (4 * k + 2) 0 = stays states object state (4 * k + 2) (λ f. omega arith) in
    let d : get_or (set states object state) (4 * k + 3) 0 ≡ state = is_new states object state (4 * k + 3) h (omega arith) in
    omega arith
byte_changes states object state k (suc (suc (suc (suc r)))) l e h = absurd (omega arith)

pub bits_of-set : (states : List ℕ) (object state x : ℕ) → object < length states
    → x ≡ byte_of states (object / 4) - get_or states object 0 * weight (object % 4) + state * weight (object % 4)
    → set (bits_of states) (object / 4) x ≡ bits_of (set states object state)
bits_of-set states object state x h e =
    fill_by_all (byte_of (set states object state)) (set (bits_of states) (object / 4) x) _ 0
    (simp (length-set, length-bits_of states) refl)
    (λ k l. elim (cases_eq k (object / 4)) [
      | inl same ↦ rw same (get_or-set_same (bits_of states) (object / 4) x 0 (rw (length-bits_of states) (omega arith))
          ∙ e ∙ byte_changes states object state (object / 4) (object % 4) (omega arith) (omega arith) h)
      | inr other ↦ get_or-set_other (bits_of states) (object / 4) k x 0 other ∙ get_or-bits_of states k ∙ byte_stays states object state k other
    ])

pub are_states-set : (states : List ℕ) (object state : ℕ) → AreStates states → state < 3 → AreStates (set states object state)
are_states-set [] object state h l = refl
are_states-set (s ∷ states) zero state h l = both_true (lt-ltb state 3 l) (and_parts (is_state s) _ h).1
are_states-set (s ∷ states) (suc object) state h l =
    let parts = and_parts (is_state s) (list_all is_state states) h in
    both_true parts.0 (are_states-set states object state parts.1 l)

-- ---- bytes that came from elsewhere

state_at_place : (bytes : List ℕ) (k r : ℕ) → r < 4 → state_at bytes (4 * k + r) ≡ get_or bytes k 0 / weight r % 4
state_at_place bytes k r l =
    let quotient : (4 * k + r) / 4 ≡ k = omega arith in
    let place : (4 * k + r) % 4 ≡ r = omega arith in
    ap (λ q. get_or bytes q 0 / weight ((4 * k + r) % 4) % 4) quotient ∙ ap (λ p. get_or bytes k 0 / weight p % 4) place

pub length-states_of : (bytes : List ℕ) (count : ℕ) → length (states_of bytes count) ≡ count
length-states_of bytes count = length-map-range_with_len (state_at bytes) 0 count

listed : (bytes : List ℕ) (count i k r : ℕ) → i < count → i ≡ 4 * k + r → r < 4 → get_or (states_of bytes count) i 0 ≡ get_or bytes k 0 / weight r % 4
listed bytes count i k r h e l = get_or-map-range_with_len (state_at bytes) 0 count i i 0 h (omega arith) ∙ ap (state_at bytes) e ∙ state_at_place bytes k r l

unlisted : (bytes : List ℕ) (count i : ℕ) → count ≤ i → get_or (states_of bytes count) i 0 ≡ 0
unlisted bytes count i h = get_or_past (states_of bytes count) i 0 (rw (length-states_of bytes count) h)

whole_byte : (bytes : List ℕ) (count k : ℕ) → get_or bytes k 0 < 256 → 4 * k + 3 < count → get_or bytes k 0 ≡ byte_of (states_of bytes count) k
whole_byte bytes count k small h =
    let a : get_or (states_of bytes count) (4 * k) 0 ≡ get_or bytes k 0 / 64 % 4 = listed bytes count (4 * k) k 0 (omega arith) (omega arith) (omega arith) in
    let b : get_or (states_of bytes count) (4 * k + 1) 0 ≡ get_or bytes k 0 / 16 % 4 = listed bytes count (4 * k + 1) k 1 (omega arith) refl (omega arith) in
    let c : get_or (states_of bytes count) (4 * k + 2) 0 ≡ get_or bytes k 0 / 4 % 4 = listed bytes count (4 * k + 2) k 2 (omega arith) refl (omega arith) in
    let d : get_or (states_of bytes count) (4 * k + 3) 0 ≡ get_or bytes k 0 / 1 % 4 = listed bytes count (4 * k + 3) k 3 (omega arith) refl (omega arith) in
    rw (a, b, c, d) (sym (digits (get_or bytes k 0) small))

part_1 : (b : ℕ) → b < 256 → 64 * (b / 64 % 4) ≡ b - b % 64
part_1 b h = omega arith

part_2 : (b : ℕ) → b < 256 → 64 * (b / 64 % 4) + 16 * (b / 16 % 4) ≡ b - b % 16
part_2 b h = omega arith

part_3 : (b : ℕ) → b < 256 → 64 * (b / 64 % 4) + 16 * (b / 16 % 4) + 4 * (b / 4 % 4) ≡ b - b % 4
part_3 b h = omega arith

-- the last byte, of which the first r states are listed
last_byte : (bytes : List ℕ) (count k r : ℕ) → get_or bytes k 0 < 256 → count ≡ 4 * k + suc r → r < 3
    → get_or bytes k 0 - get_or bytes k 0 % weight r ≡ byte_of (states_of bytes count) k
last_byte bytes count k zero small e l =
    let a : get_or (states_of bytes count) (4 * k) 0 ≡ get_or bytes k 0 / 64 % 4 = listed bytes count (4 * k) k 0 (omega arith) (omega arith) (omega arith) in
    let b : get_or (states_of bytes count) (4 * k + 1) 0 ≡ 0 = unlisted bytes count (4 * k + 1) (omega arith) in
    let c : get_or (states_of bytes count) (4 * k + 2) 0 ≡ 0 = unlisted bytes count (4 * k + 2) (omega arith) in
    let d : get_or (states_of bytes count) (4 * k + 3) 0 ≡ 0 = unlisted bytes count (4 * k + 3) (omega arith) in
    let parts = part_1 (get_or bytes k 0) small in
    omega arith
last_byte bytes count k (suc zero) small e l =
    let a : get_or (states_of bytes count) (4 * k) 0 ≡ get_or bytes k 0 / 64 % 4 = listed bytes count (4 * k) k 0 (omega arith) (omega arith) (omega arith) in
    let b : get_or (states_of bytes count) (4 * k + 1) 0 ≡ get_or bytes k 0 / 16 % 4 = listed bytes count (4 * k + 1) k 1 (omega arith) refl (omega arith) in
    let c : get_or (states_of bytes count) (4 * k + 2) 0 ≡ 0 = unlisted bytes count (4 * k + 2) (omega arith) in
    let d : get_or (states_of bytes count) (4 * k + 3) 0 ≡ 0 = unlisted bytes count (4 * k + 3) (omega arith) in
    let parts = part_2 (get_or bytes k 0) small in
    omega arith
last_byte bytes count k (suc (suc zero)) small e l =
    let a : get_or (states_of bytes count) (4 * k) 0 ≡ get_or bytes k 0 / 64 % 4 = listed bytes count (4 * k) k 0 (omega arith) (omega arith) (omega arith) in
    let b : get_or (states_of bytes count) (4 * k + 1) 0 ≡ get_or bytes k 0 / 16 % 4 = listed bytes count (4 * k + 1) k 1 (omega arith) refl (omega arith) in
    let c : get_or (states_of bytes count) (4 * k + 2) 0 ≡ get_or bytes k 0 / 4 % 4 = listed bytes count (4 * k + 2) k 2 (omega arith) refl (omega arith) in
    let d : get_or (states_of bytes count) (4 * k + 3) 0 ≡ 0 = unlisted bytes count (4 * k + 3) (omega arith) in
    let parts = part_3 (get_or bytes k 0) small in
    omega arith
last_byte bytes count k (suc (suc (suc r))) small e l = absurd (omega arith)

-- as many as four in each byte
pub all_listed : (bytes : List ℕ) (count : ℕ) → ((k : ℕ) → get_or bytes k 0 < 256) → length bytes ≡ (count + 3) / 4 → count % 4 ≡ 0
    → bytes ≡ bits_of (states_of bytes count)
all_listed bytes count small n e =
    fill_by_all (byte_of (states_of bytes count)) bytes _ 0 (rw (length-states_of bytes count) n)
    (λ k h. let m : length (states_of bytes count) ≡ count = length-states_of bytes count in whole_byte bytes count k (small k) (omega arith))

pub last_cut : (bytes : List ℕ) (count x : ℕ) → ((k : ℕ) → get_or bytes k 0 < 256) → length bytes ≡ (count + 3) / 4 → (count % 4 ≡ 0 → ⊥)
    → x ≡ get_or bytes (count / 4) 0 - get_or bytes (count / 4) 0 % weight ((count - 1) % 4)
    → set bytes (count / 4) x ≡ bits_of (states_of bytes count)
last_cut bytes count x small n part e =
    fill_by_all (byte_of (states_of bytes count)) (set bytes (count / 4) x) _ 0 (rw (length-set, length-states_of bytes count) n)
    (λ k h. let m : length (states_of bytes count) ≡ count = length-states_of bytes count in
    elim (cases_eq k (count / 4)) [
      | inl same ↦ rw same (get_or-set_same bytes (count / 4) x 0 (omega arith) ∙ e
          ∙ last_byte bytes count (count / 4) ((count - 1) % 4) (small (count / 4)) (omega arith) (omega arith))
      | inr other ↦ get_or-set_other bytes (count / 4) k x 0 other ∙ whole_byte bytes count k (small k) (omega arith)
    ])

-- ---- counting

pub states_of_more : (bytes : List ℕ) (n : ℕ) → states_of bytes (n + 1) ≡ states_of bytes n ++ state_at bytes n ∷ []
states_of_more bytes n = map-range_with_len_more (state_at bytes) 0 n n (omega arith)

abbrev one_if : Bool → ℕ
one_if b = cond b 1 0

count_push : (xs : List ℕ) (x : ℕ) → count_by is_used (xs ++ x ∷ []) ≡ count_by is_used xs + one_if (is_used x)
count_push xs x =
    let both : count_by is_used (xs ++ x ∷ []) ≡ count_by is_used xs + count_by is_used (x ∷ []) = sum_by-append (λ y. cond (is_used y) 1 0) xs (x ∷ []) in
    let one : count_by is_used (x ∷ []) ≡ one_if (is_used x) = omega arith in
    omega arith

pub used_more : (bytes : List ℕ) (n m : ℕ) → m ≡ n + 1 → count_by is_used (states_of bytes m) ≡ count_by is_used (states_of bytes n) + one_if (is_used (state_at bytes n))
used_more bytes n m e = rw e (ap (count_by is_used) (states_of_more bytes n) ∙ count_push (states_of bytes n) (state_at bytes n))

abbrev marks : ℕ → ℕ
marks b = one_if (is_used (b / 64 % 4)) + one_if (is_used (b / 16 % 4)) + one_if (is_used (b / 4 % 4)) + one_if (is_used (b / 1 % 4))

used_four : (bytes : List ℕ) (k : ℕ) → count_by is_used (states_of bytes (4 * k + 4)) ≡ count_by is_used (states_of bytes (4 * k)) + marks (get_or bytes k 0)
used_four bytes k =
    let at : (r : ℕ) → r < 4 → one_if (is_used (state_at bytes (4 * k + r))) ≡ one_if (is_used (get_or bytes k 0 / weight r % 4))
    = λ r l. ap (λ s. one_if (is_used s)) (state_at_place bytes k r l) in
    let a : count_by is_used (states_of bytes (4 * k + 1)) ≡ count_by is_used (states_of bytes (4 * k)) + one_if (is_used (state_at bytes (4 * k))) = used_more bytes (4 * k) (4 * k + 1) (omega arith) in
    let b : count_by is_used (states_of bytes (4 * k + 2)) ≡ count_by is_used (states_of bytes (4 * k + 1)) + one_if (is_used (state_at bytes (4 * k + 1))) = used_more bytes (4 * k + 1) (4 * k + 2) (omega arith) in
    let c : count_by is_used (states_of bytes (4 * k + 3)) ≡ count_by is_used (states_of bytes (4 * k + 2)) + one_if (is_used (state_at bytes (4 * k + 2))) = used_more bytes (4 * k + 2) (4 * k + 3) (omega arith) in
    let d : count_by is_used (states_of bytes (4 * k + 4)) ≡ count_by is_used (states_of bytes (4 * k + 3)) + one_if (is_used (state_at bytes (4 * k + 3))) = used_more bytes (4 * k + 3) (4 * k + 4) (omega arith) in
    let a4 : one_if (is_used (state_at bytes (4 * k))) ≡ one_if (is_used (get_or bytes k 0 / 64 % 4)) = ap (λ i. one_if (is_used (state_at bytes i))) (sym (add-zero (4 * k))) ∙ at 0 (omega arith) in
    let b4 : one_if (is_used (state_at bytes (4 * k + 1))) ≡ one_if (is_used (get_or bytes k 0 / 16 % 4)) = at 1 (omega arith) in
    let c4 : one_if (is_used (state_at bytes (4 * k + 2))) ≡ one_if (is_used (get_or bytes k 0 / 4 % 4)) = at 2 (omega arith) in
    let d4 : one_if (is_used (state_at bytes (4 * k + 3))) ≡ one_if (is_used (get_or bytes k 0 / 1 % 4)) = at 3 (omega arith) in
    omega arith

-- one more byte
pub used_byte_more : (bytes : List ℕ) (k : ℕ) → count_by is_used (states_of bytes (4 * (k + 1))) ≡ count_by is_used (states_of bytes (4 * k)) + count_by is_used (states_of (get_or bytes k 0 ∷ []) 4)
used_byte_more bytes k =
    let one : count_by is_used (states_of (get_or bytes k 0 ∷ []) 4) ≡ marks (get_or bytes k 0) = used_four (get_or bytes k 0 ∷ []) 0 ∙ omega arith in
    let four : 4 * (k + 1) ≡ 4 * k + 4 = omega arith in
    rw four (used_four bytes k ∙ ap (λ n. count_by is_used (states_of bytes (4 * k)) + n) (sym one))

pub used-le : (bytes : List ℕ) (count : ℕ) → count_by is_used (states_of bytes count) ≤ count
used-le bytes count = let l = count_by-le-length is_used (states_of bytes count) in let m = length-states_of bytes count in omega arith

pub take-states_of : (bytes : List ℕ) (total count n : ℕ) → n ≡ min count total → states_of bytes n ≡ take count (states_of bytes total)
take-states_of bytes total count n e =
    elim (cases_lt count total) [
      | inl less ↦ (let m : n ≡ count = omega arith in rw m (sym (take-map-range_with_len (state_at bytes) 0 total count (omega arith))))
      | inr all ↦ (let m : n ≡ total = omega arith in rw m (sym (take_all count (states_of bytes total) (rw (length-states_of bytes total) all))))
    ]

-- what lies in the first bytes
pub used-take : (bytes : List ℕ) (w : ℕ) → w ≤ length bytes → count_by is_used (states_of (take w bytes) (4 * length (take w bytes))) ≡ count_by is_used (states_of bytes (4 * w))
used-take bytes w h =
    let l : length (take w bytes) ≡ w = length-take-le w bytes h in
    rw l
    (ap (count_by is_used)
    (fill_by_all (state_at bytes) (states_of (take w bytes) (4 * w)) (4 * w) 0 (length-states_of (take w bytes) (4 * w))
    (λ k less. get_or-map-range_with_len (state_at (take w bytes)) 0 (4 * w) k k 0 less (omega arith)
    ∙ ap (λ b. b / weight (k % 4) % 4) (get_or-take w bytes (k / 4) 0 (omega arith)))))

-- ---- the goals of a map's methods

pub resized : (bytes new : List ℕ) (count len more grown : ℕ) → IsPacked bytes count → len ≡ length bytes → count < grown
    → more ≡ (grown + 3) / 4 → new ≡ take more bytes ++ replicate (more - len) 0
    → new ≡ bits_of (states_of bytes count ++ replicate (grown - count) 0)
resized bytes new count len more grown p n h m e =
    let l : length bytes ≡ (count + 3) / 4 = length_packed bytes count p in
    let s : length (states_of bytes count) ≡ count = length-states_of bytes count in
    e ∙ ap (λ b. b ++ replicate (more - len) 0) (take_all more bytes (omega arith) ∙ p.packed)
    ∙ bits_of-padded (states_of bytes count) (grown - count) (more - len) (rw s (omega arith))

pub resized_length : (bytes : List ℕ) (count grown : ℕ) → count < grown → length (states_of bytes count ++ replicate (grown - count) 0) ≡ grown
resized_length bytes count grown h = simp (length-append, length-replicate, length-states_of bytes count) (omega arith)

pub changed : (bytes : List ℕ) (count object state x : ℕ) → IsPacked bytes count → object < count
    → x ≡ get_or bytes (object / 4) 0 - state_at bytes object * weight (object % 4) + state * weight (object % 4)
    → set bytes (object / 4) x ≡ bits_of (set (states_of bytes count) object state)
changed bytes count object state x p h e =
    let s : length (states_of bytes count) ≡ count = length-states_of bytes count in
    let byte : get_or bytes (object / 4) 0 ≡ byte_of (states_of bytes count) (object / 4)
    = ap (λ b. get_or b (object / 4) 0) p.packed ∙ get_or-bits_of (states_of bytes count) (object / 4) in
    let old : state_at bytes object ≡ get_or (states_of bytes count) object 0 = sym (get_or-map-range_with_len (state_at bytes) 0 count object object 0 h (omega arith)) in
    ap (λ b. set b (object / 4) x) p.packed
    ∙ bits_of-set (states_of bytes count) object state x (omega arith) (rw (← byte, ← old) e)

byte_small : (states : List ℕ) (k : ℕ) → AreStates states → byte_of states k < 256
byte_small states k h = omega (arith, below_3 states h (4 * k), below_3 states h (4 * k + 1), below_3 states h (4 * k + 2), below_3 states h (4 * k + 3))

pub changed_fits : (bytes : List ℕ) (count object state : ℕ) → IsPacked bytes count → object < count → state < 3
    → get_or bytes (object / 4) 0 - state_at bytes object * weight (object % 4) + state * weight (object % 4) < 256
changed_fits bytes count object state p h l =
    let s : length (states_of bytes count) ≡ count = length-states_of bytes count in
    let byte : get_or bytes (object / 4) 0 ≡ byte_of (states_of bytes count) (object / 4)
    = ap (λ b. get_or b (object / 4) 0) p.packed ∙ get_or-bits_of (states_of bytes count) (object / 4) in
    let old : state_at bytes object ≡ get_or (states_of bytes count) object 0 = sym (get_or-map-range_with_len (state_at bytes) 0 count object object 0 h (omega arith)) in
    let new = byte_changes (states_of bytes count) object state (object / 4) (object % 4) (omega arith) (omega arith) (omega arith) in
    let small = byte_small (set (states_of bytes count) object state) (object / 4) (are_states-set (states_of bytes count) object state p.states l) in
    rw (old, byte, new) small
