-- The notices that are sorted into inboxes.
use Rattle.std.proofs.Common.{◌≡◌, ℕ, zero, suc, ◌+◌, ◌-◌, ◌<◌, ◌≤◌, ◌==◌, ◌||◌, ◌⊎◌, inl, inr, Bool, true, false, List, [], ◌∷◌, ◌++◌, drop, replicate, length, get_or, slice_get, slice_set, None, Some, refl, sym, ap, ◌∙◌, subst, arith}
use Rattle.std.specs.List.{list_any}
use Rattle.std.proofs.lemmas.Bool.{cases_eq, cases_lt, eq-eqb, ne_eqb, or_right}
use Rattle.std.proofs.lemmas.Option.{none-some, same_Some}
use Rattle.std.proofs.Math.Bool.{or-false}
use Rattle.rbd_schedule.specs.Playing.{HoldsBut, IsWithout, mark_of, passed_by}
use Rattle.rbd_schedule.proofs.Queues.{set_other, set_there}

module _ (P : ℕ → Type 0) where
  -- ---- one more number

  one_further : (from to : ℕ) → ((k : ℕ) → from ≤ k → k < to → P (k + 1)) → P (to + 1) → (k : ℕ) → from ≤ k → k < to + 1 → P (k + 1)
  one_further from to each it k least below = by (cases_lt k to)
    where
      by : (k < to) ⊎ (to ≤ k) → P (k + 1)
      by (inl less) = each k least less
      by (inr past) = let same : to ≡ k = omega (arith, below, past) in subst (λ n. P (n + 1)) same it

  -- one more, which has it
  pub but_more : (from : ℕ) (listed : List ℕ) (to : ℕ) → HoldsBut P from listed to → P (to + 1) → HoldsBut P from listed (to + 1)
  but_more from [] to (most, each) it = (omega (arith, most), λ k least below. one_further from to each it k least below)
  but_more from (number ∷ listed) to (less, each, rest) it = (less, each, but_more number listed to rest it)

  -- one more, which is listed
  pub but_listed : (from : ℕ) (listed : List ℕ) (to : ℕ) → HoldsBut P from listed to → HoldsBut P from (listed ++ (to + 1) ∷ []) (to + 1)
  but_listed from [] to (most, each) =
      (omega (arith, most), (λ k least below. each k least (omega (arith, below))), (omega arith, (λ k least below. absurd (omega (arith, least, below)))))
  but_listed from (number ∷ listed) to (less, each, rest) = (less, each, but_listed number listed to rest)

  -- ---- one fewer listed

  around : (from number k : ℕ) → ((j : ℕ) → from ≤ j → j + 1 < number → P (j + 1)) → P number → from ≤ k → (number ≤ k → P (k + 1)) → P (k + 1)
  around from number k each it least rest = by (cases_lt (k + 1) number) (cases_lt k number)
    where
      by : (k + 1 < number) ⊎ (number ≤ k + 1) → (k < number) ⊎ (number ≤ k) → P (k + 1)
      by (inl less) c = each k least less
      by (inr past) (inl less) = let same : number ≡ k + 1 = omega (arith, past, less) in subst P same it
      by (inr past) (inr more) = rest more

  -- a first one that has it needn't be listed
  but_first : (from number : ℕ) (listed : List ℕ) (to : ℕ) → HoldsBut P from (number ∷ listed) to → P number → HoldsBut P from listed to
  but_first from number [] to (less, each, (most, rest)) it = (omega (arith, less, most), λ k least below. around from number k each it least (λ more. rest k more below))
  but_first from number (next ∷ listed) to (less, each, (less', each', rest)) it =
      (omega (arith, less, less'), (λ k least below. around from number k each it least (λ more. each' k more below)), rest)

  -- nor some first ones
  pub but_without : (S : ℕ → Type 0) → ((n : ℕ) → S n → P n) → (from : ℕ) (old new : List ℕ) (to : ℕ) → IsWithout S old new → HoldsBut P from old to → HoldsBut P from new to
  but_without S gives from [] new to same holds = subst (λ ns. HoldsBut P from ns to) (sym same) holds
  but_without S gives from (n ∷ old) new to (inl same) holds = subst (λ ns. HoldsBut P from ns to) (sym same) holds
  but_without S gives from (n ∷ old) new to (inr (it, rest)) holds = but_without S gives from old new to rest (but_first from n old to holds (gives n it))

  -- ---- what has it

  -- all before the first that is listed, and all where none is
  pub all_passed : (listed : List ℕ) (to : ℕ) → HoldsBut P 0 listed to → (k : ℕ) → k < passed_by listed to → P (k + 1)
  all_passed [] to (most, each) k below = each k (omega arith) below
  all_passed (n ∷ listed) to (less, each, rest) k below = each k (omega arith) (omega (arith, below))

pub but_weaker : (P Q : ℕ → Type 0) → ((n : ℕ) → P n → Q n) → (from : ℕ) (listed : List ℕ) (to : ℕ) → HoldsBut P from listed to → HoldsBut Q from listed to
but_weaker P Q gives from [] to (most, each) = (most, λ k least below. gives (k + 1) (each k least below))
but_weaker P Q gives from (n ∷ listed) to (less, each, rest) = (less, (λ k least below. gives (k + 1) (each k least below)), but_weaker P Q gives n listed to rest)

-- ---- a list without some first numbers

abbrev tail_of : List ℕ → List ℕ
tail_of [] = []
tail_of (x ∷ xs) = xs

pub without_none : (S : ℕ → Type 0) (numbers : List ℕ) → IsWithout S numbers numbers
without_none S [] = refl
without_none S (n ∷ numbers) = inl refl

pub without_more : (S : ℕ → Type 0) (old : List ℕ) (n : ℕ) (new : List ℕ) → IsWithout S old (n ∷ new) → S n → IsWithout S old new
without_more S [] n new same it = let one = ap length same in absurd (omega (arith, one))
without_more S (m ∷ old) n new (inl same) it =
    inr (subst S (ap (λ xs. get_or xs 0 n) same) it, subst (IsWithout S old) (sym (ap tail_of same)) (without_none S old))
without_more S (m ∷ old) n new (inr (has, rest)) it = inr (has, without_more S old n new rest it)

-- the first one, and what is left without it
pub first_popped : (xs ys : List ℕ) (n : ℕ) → slice_get xs 0 ≡ Some n → ys ≡ drop 1 xs → xs ≡ n ∷ ys
first_popped [] ys n is rest = absurd (none-some n is)
first_popped (x ∷ xs) ys n is rest = ap (λ y. y ∷ xs) (same_Some x n is) ∙ ap (λ zs. n ∷ zs) (sym rest)

pub passed_first : (xs : List ℕ) (n sorted : ℕ) → slice_get xs 0 ≡ Some n → n - 1 ≡ passed_by xs sorted
passed_first [] n sorted is = absurd (none-some n is)
passed_first (x ∷ xs) n sorted is = ap (λ y. y - 1) (sym (same_Some x n is))

pub passed_none : (xs : List ℕ) (sorted : ℕ) → slice_get xs 0 ≡ None → sorted ≡ passed_by xs sorted
passed_none [] sorted is = refl
passed_none (x ∷ xs) sorted is = absurd (none-some x (sym is))

-- one more number behind the others
pub first_pushed : (xs : List ℕ) (n : ℕ) → 0 < length xs → n ≡ get_or xs 0 n → Some n ≡ slice_get xs 0
first_pushed [] n some is = absurd (omega (arith, some))
first_pushed (x ∷ xs) n some is = ap Some is

pub first_none : (xs : List ℕ) → length xs ≤ 0 → None ≡ slice_get xs 0
first_none [] none = refl
first_none (x ∷ xs) none = absurd (omega (arith, none))

-- ---- marks

no_mark : (count i : ℕ) → mark_of (slice_get (replicate count false) i) ≡ false
no_mark zero i = refl
no_mark (suc count) zero = refl
no_mark (suc count) (suc i) = no_mark count i

-- more places have no marks
pub more_places : (marks : List Bool) (count i : ℕ) → mark_of (slice_get (marks ++ replicate count false) i) ≡ mark_of (slice_get marks i)
more_places [] count i = no_mark count i
more_places (m ∷ marks) count zero = refl
more_places (m ∷ marks) count (suc i) = more_places marks count i

-- one more mark
pub one_more_mark : (old marks : List Bool) (index other : ℕ) → index < length marks → ((i : ℕ) → mark_of (slice_get marks i) ≡ mark_of (slice_get old i))
    → mark_of (slice_get (slice_set marks index true) other) ≡ (mark_of (slice_get old other) || (index == other))
one_more_mark old marks index other below same = by (cases_eq other index)
  where
    by : (other ≡ index) ⊎ (other ≡ index → ⊥) → mark_of (slice_get (slice_set marks index true) other) ≡ (mark_of (slice_get old other) || (index == other))
    by (inl at) =
        ap (λ i. mark_of (slice_get (slice_set marks index true) i)) at ∙ ap mark_of (set_there marks index true below)
        ∙ sym (or_right (mark_of (slice_get old other)) (index == other) (eq-eqb index other (sym at)))
    by (inr away) =
        ap mark_of (set_other marks index other true away) ∙ same other
        ∙ sym (ap (λ b. mark_of (slice_get old other) || b) (ne_eqb index other (λ at. away (sym at))) ∙ or-false (mark_of (slice_get old other)))

-- ---- no number

pub none_among : (test : ℕ → Bool) (xs : List ℕ) → length xs ≡ 0 → list_any test xs ≡ false
none_among test [] none = refl
none_among test (x ∷ xs) none = absurd (omega (arith, none))
