-- The earliest command that may start, found from the two places of a queue.
use Rattle.std.proofs.Common.{◌≡◌, ℕ, ◌&&◌, ◌||◌, not, cond, zero, suc, Bool, true, false, List, [], ◌∷◌, ◌++◌, All, length, take, drop, get_or, nat_lt, slice_get, Option, Some, None, refl, sym, ap, ◌∙◌, subst}
use Rattle.std.proofs.lemmas.Bool.{and_right, true≢false, false≢true, ltb-true}
use Rattle.std.proofs.lemmas.Option.{none-some, same_Some, slice_get-get_or}
use Rattle.std.proofs.lemmas.List.Elements.{All-head, All-same, All-tail, All-weaker}
use Rattle.std.proofs.lemmas.List.{append-nil}
use Rattle.rbd_schedule.specs.declared.given.Given.{Given}
use Rattle.rbd_schedule.specs.Playing.{is_open, may_start_beside, is_over}
use Rattle.rbd_schedule.specs.Starts.{earliest}

module _ (b a : (line : ℕ) → Bool) where
  -- ---- one command

  over_first : (c : Given) (given : List Given) → is_over b a c ≡ true → earliest b a true (c ∷ given) ≡ earliest b a true given
  over_first c given = by (b c.line) (a c.line)
    where
      by : (p q : Bool) → (p && q) ≡ true → cond (not p && (c.beside || true)) (Some c) (earliest b a (true && q) given) ≡ earliest b a true given
      by true true is = refl
      by true false is = absurd (false≢true is)
      by false q is = absurd (false≢true is)

  none_first : (c : Given) (given : List Given) → may_start_beside b c ≡ false → earliest b a false (c ∷ given) ≡ earliest b a false given
  none_first c given = by (b c.line) c.beside
    where
      by : (p q : Bool) → (q && not p) ≡ false → cond (not p && (q || false)) (Some c) (earliest b a false given) ≡ earliest b a false given
      by true q is = refl
      by false true is = absurd (true≢false is)
      by false false is = refl

  -- one that wasn't begun, with answered ones alone before it
  pub free_first : (c : Given) (given : List Given) → b c.line ≡ false → earliest b a true (c ∷ given) ≡ Some c
  free_first c given = by (b c.line) c.beside
    where
      by : (p q : Bool) → p ≡ false → cond (not p && (q || true)) (Some c) (earliest b a (true && a c.line) given) ≡ Some c
      by true q is = absurd (true≢false is)
      by false true is = refl
      by false false is = refl

  -- one that was begun and has no reply
  pub open_first : (c : Given) (given : List Given) → is_over b a c ≡ false → b c.line ≡ true → earliest b a true (c ∷ given) ≡ earliest b a false given
  open_first c given = by (b c.line) (a c.line)
    where
      by : (p q : Bool) → (p && q) ≡ false → p ≡ true → cond (not p && (c.beside || true)) (Some c) (earliest b a (true && q) given) ≡ earliest b a false given
      by true true closed begun = absurd (true≢false closed)
      by true false closed begun = refl
      by false q closed begun = absurd (false≢true begun)

  beside_first : (c : Given) (given : List Given) → may_start_beside b c ≡ true → earliest b a false (c ∷ given) ≡ Some c
  beside_first c given = by (b c.line) c.beside
    where
      by : (p q : Bool) → (q && not p) ≡ true → cond (not p && (q || false)) (Some c) (earliest b a false given) ≡ Some c
      by true true is = absurd (false≢true is)
      by true false is = absurd (false≢true is)
      by false true is = refl
      by false false is = absurd (false≢true is)

  -- ---- a list of them

  over_all : (xs ys : List Given) → All (λ c. is_over b a c ≡ true) xs → earliest b a true (xs ++ ys) ≡ earliest b a true ys
  over_all [] ys over = refl
  over_all (c ∷ xs) ys over = over_first c (xs ++ ys) (All-head (λ c. is_over b a c ≡ true) c xs over) ∙ over_all xs ys (All-tail (λ c. is_over b a c ≡ true) c xs over)

  none_all : (xs ys : List Given) → All (λ c. may_start_beside b c ≡ false) xs → earliest b a false (xs ++ ys) ≡ earliest b a false ys
  none_all [] ys none = refl
  none_all (c ∷ xs) ys none = none_first c (xs ++ ys) (All-head (λ c. may_start_beside b c ≡ false) c xs none) ∙ none_all xs ys (All-tail (λ c. may_start_beside b c ≡ false) c xs none)

  -- a command that is over was begun, so none that is starts beside the others
  begun_none : (c : Given) → b c.line ≡ true → may_start_beside b c ≡ false
  begun_none c = by (b c.line) c.beside
    where
      by : (p q : Bool) → p ≡ true → (q && not p) ≡ false
      by true true is = refl
      by true false is = refl
      by false q is = absurd (false≢true is)

  over_none : (c : Given) → is_over b a c ≡ true → may_start_beside b c ≡ false
  over_none c = by (b c.line) (a c.line) c.beside
    where
      by : (p q r : Bool) → (p && q) ≡ true → (r && not p) ≡ false
      by true q true is = refl
      by true q false is = refl
      by false q r is = absurd (false≢true is)

  over_nones : (xs : List Given) → All (λ c. is_over b a c ≡ true) xs → All (λ c. may_start_beside b c ≡ false) xs
  over_nones xs over = All-weaker (λ c. is_over b a c ≡ true) (λ c. may_start_beside b c ≡ false) over_none xs over

  -- ---- at a place of the list

  cut_at : (n : ℕ) (xs : List Given) (c : Given) → slice_get xs n ≡ Some c → xs ≡ take n xs ++ c ∷ drop (suc n) xs
  cut_at n [] c is = absurd (none-some c is)
  cut_at zero (x ∷ xs) c is = ap (λ y. y ∷ xs) (same_Some x c is)
  cut_at (suc n) (x ∷ xs) c is = ap (λ ys. x ∷ ys) (cut_at n xs c is)

  past_end : (n : ℕ) (xs : List Given) → slice_get xs n ≡ None → take n xs ≡ xs
  past_end zero [] is = refl
  past_end (suc n) [] is = refl
  past_end zero (x ∷ xs) is = absurd (none-some x (sym is))
  past_end (suc n) (x ∷ xs) is = ap (λ ys. x ∷ ys) (past_end n xs is)

  -- all are over
  pub earliest_none : (n : ℕ) (xs : List Given) → All (λ c. is_over b a c ≡ true) (take n xs) → slice_get xs n ≡ None → earliest b a true xs ≡ None
  earliest_none n xs over end =
      ap (earliest b a true) (sym (append-nil xs))
      ∙ over_all xs [] (All-same (λ c. is_over b a c ≡ true) xs (take n xs) (sym (past_end n xs end)) over)

  -- the first that isn't over wasn't begun
  pub earliest_front : (n : ℕ) (xs : List Given) (c : Given) → All (λ x. is_over b a x ≡ true) (take n xs) → slice_get xs n ≡ Some c → b c.line ≡ false → earliest b a true xs ≡ Some c
  earliest_front n xs c over is free =
      ap (earliest b a true) (cut_at n xs c is) ∙ over_all (take n xs) (c ∷ drop (suc n) xs) over ∙ free_first c (drop (suc n) xs) free

  -- the first that isn't over was begun: then only one beside it may start
  pub earliest_open : (n : ℕ) (xs : List Given) (c : Given) → All (λ x. is_over b a x ≡ true) (take n xs) → slice_get xs n ≡ Some c → is_over b a c ≡ false → b c.line ≡ true
      → earliest b a true xs ≡ earliest b a false xs
  earliest_open n xs c over is unanswered begun =
      ap (earliest b a true) (cut_at n xs c is) ∙ over_all (take n xs) (c ∷ drop (suc n) xs) over ∙ open_first c (drop (suc n) xs) unanswered begun
      ∙ sym (ap (earliest b a false) (cut_at n xs c is) ∙ none_all (take n xs) (c ∷ drop (suc n) xs) (over_nones (take n xs) over) ∙ none_first c (drop (suc n) xs) (begun_none c begun))

  pub earliest_beside : (n : ℕ) (xs : List Given) (c : Given) → All (λ x. may_start_beside b x ≡ false) (take n xs) → slice_get xs n ≡ Some c → may_start_beside b c ≡ true → earliest b a false xs ≡ Some c
  earliest_beside n xs c none is beside =
      ap (earliest b a false) (cut_at n xs c is) ∙ none_all (take n xs) (c ∷ drop (suc n) xs) none ∙ beside_first c (drop (suc n) xs) beside

  pub none_beside : (n : ℕ) (xs : List Given) → All (λ x. may_start_beside b x ≡ false) (take n xs) → slice_get xs n ≡ None → earliest b a false xs ≡ None
  none_beside n xs none end =
      ap (earliest b a false) (sym (append-nil xs)) ∙ none_all xs [] (All-same (λ c. may_start_beside b c ≡ false) xs (take n xs) (sym (past_end n xs end)) none)

-- what stands at a place of a list that is this one
pub found_there : (ys xs : List Given) (n : ℕ) (x : Given) → ys ≡ xs → true ≡ nat_lt n (length ys) → x ≡ get_or ys n x → slice_get xs n ≡ Some x
found_there ys xs n x same below is =
    subst (λ zs. slice_get zs n ≡ Some x) same (slice_get-get_or ys n x (ltb-true n (length ys) (sym below)) ∙ ap Some (sym is))

-- ---- one more that waits for an open one

module _ (b a : (line : ℕ) → Bool) where
  last_shut : (c : Given) → c.beside ≡ false → earliest b a false (c ∷ []) ≡ None
  last_shut c = by (b c.line) c.beside
    where
      by : (p q : Bool) → q ≡ false → ◌≡◌ {A = Option Given} (cond (not p && (q || false)) (Some c) None) None
      by true q is = refl
      by false true is = absurd (true≢false is)
      by false false is = refl

  -- what is none stays so where the rest does
  still_none : (q : Bool) (x : Given) (o n : Option Given) → (o ≡ None → n ≡ None) → cond q (Some x) o ≡ None → cond q (Some x) n ≡ None
  still_none true x o n goes is = absurd (none-some x (sym is))
  still_none false x o n goes is = goes is

  shut : (given : List Given) (c : Given) → c.beside ≡ false → earliest b a false given ≡ None → earliest b a false (given ++ c ∷ []) ≡ None
  shut [] c alone none = last_shut c alone
  shut (x ∷ given) c alone none =
      still_none (not (b x.line) && (x.beside || false)) x (earliest b a false given) (earliest b a false (given ++ c ∷ [])) (shut given c alone) none

  not_ended : (p : Bool) → not p ≡ true → p ≡ false
  not_ended true is = absurd (false≢true is)
  not_ended false is = refl

  pub held_back : (before : Bool) (given : List Given) (c : Given) (place : ℕ) → c.beside ≡ false → is_open a (slice_get given place) ≡ true → earliest b a before given ≡ None
      → earliest b a before (given ++ c ∷ []) ≡ None
  held_back before [] c place alone lasts none = absurd (false≢true lasts)
  held_back before (x ∷ given) c zero alone lasts none =
      still_none (not (b x.line) && (x.beside || before)) x (earliest b a (before && a x.line) given) (earliest b a (before && a x.line) (given ++ c ∷ []))
      (subst (λ q. earliest b a q given ≡ None → earliest b a q (given ++ c ∷ []) ≡ None) (sym (and_right before (a x.line) (not_ended (a x.line) lasts))) (shut given c alone)) none
  held_back before (x ∷ given) c (suc place) alone lasts none =
      still_none (not (b x.line) && (x.beside || before)) x (earliest b a (before && a x.line) given) (earliest b a (before && a x.line) (given ++ c ∷ []))
      (held_back (before && a x.line) given c place alone lasts) none
