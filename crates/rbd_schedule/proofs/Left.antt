-- How many commands weren't begun: one fewer behind each that starts.
use Rattle.std.proofs.Common.{◌≡◌, ℕ, zero, suc, ◌+◌, ◌<◌, ◌≤◌, ◌&&◌, ◌||◌, ◌⊎◌, inl, inr, not, cond, Bool, true, false, List, [], ◌∷◌, Some, refl, ap, ◌∙◌, subst, arith}
use Rattle.std.proofs.lemmas.Bool.{cases_lt, false≢true}
use Rattle.std.proofs.lemmas.Option.{none-some, same_Some}
use Rattle.rbd_schedule.specs.declared.given.Given.{Given}
use Rattle.rbd_schedule.specs.Starts.{earliest}

-- of a session
abbrev pub left_of : (begun : (line : ℕ) → Bool) → List Given → ℕ
left_of begun [] = 0
left_of begun (c ∷ given) = cond (begun c.line) (left_of begun given) (1 + left_of begun given)

-- of the sessions below this number
abbrev pub left_in : (begun : (line : ℕ) → Bool) → (given : (session : ℕ) → List Given) → ℕ → ℕ
left_in begun given zero = 0
left_in begun given (suc n) = left_in begun given n + left_of begun (given n)

module _ (b b' : (line : ℕ) → Bool) (later : (line : ℕ) → b line ≡ true → b' line ≡ true) where
  no_more : (given : List Given) → left_of b' given ≤ left_of b given
  no_more [] = omega arith
  no_more (c ∷ given) = by (b c.line) (b' c.line) (later c.line) (no_more given)
    where
      by : (p q : Bool) → (p ≡ true → q ≡ true) → left_of b' given ≤ left_of b given → cond q (left_of b' given) (1 + left_of b' given) ≤ cond p (left_of b given) (1 + left_of b given)
      by true true goes rest = rest
      by true false goes rest = absurd (false≢true (goes refl))
      by false true goes rest = omega (arith, rest)
      by false false goes rest = omega (arith, rest)

  pub one_fewer : (a : (line : ℕ) → Bool) (before : Bool) (given : List Given) (c : Given) → earliest b a before given ≡ Some c → b' c.line ≡ true → left_of b' given < left_of b given
  one_fewer a before [] c is begun = absurd (none-some c is)
  one_fewer a before (x ∷ given) c is begun =
      by (b x.line) (b' x.line) (later x.line) (x.beside || before) (one_fewer a (before && a x.line) given c) (no_more given) (λ same. ap (λ (y : Given). b' y.line) same ∙ begun) is
    where
      by : (p p' : Bool) → (p ≡ true → p' ≡ true) → (q : Bool) → (earliest b a (before && a x.line) given ≡ Some c → b' c.line ≡ true → left_of b' given < left_of b given) → left_of b' given ≤ left_of b given
          → (x ≡ c → p' ≡ true) → cond (not p && q) (Some x) (earliest b a (before && a x.line) given) ≡ Some c
          → cond p' (left_of b' given) (1 + left_of b' given) < cond p (left_of b given) (1 + left_of b given)
      by true true goes q rest most at is = rest is begun
      by true false goes q rest most at is = absurd (false≢true (goes refl))
      by false true goes true rest most at is = omega (arith, most)
      by false false goes true rest most at is = absurd (false≢true (at (same_Some x c is)))
      by false true goes false rest most at is = let less = rest is begun in omega (arith, less)
      by false false goes false rest most at is = let less = rest is begun in omega (arith, less)

  none_more : (given : (session : ℕ) → List Given) (n : ℕ) → left_in b' given n ≤ left_in b given n
  none_more given zero = omega arith
  none_more given (suc n) = let rest = none_more given n in let it = no_more (given n) in omega (arith, rest, it)

  pub one_fewer_in : (given : (session : ℕ) → List Given) (n session : ℕ) → session < n → left_of b' (given session) < left_of b (given session) → left_in b' given n < left_in b given n
  one_fewer_in given zero session below it = absurd (omega (arith, below))
  one_fewer_in given (suc n) session below it = by (cases_lt session n) (one_fewer_in given n session) (none_more given n) (no_more (given n))
    where
      by : (session < n) ⊎ (n ≤ session) → (session < n → left_of b' (given session) < left_of b (given session) → left_in b' given n < left_in b given n)
          → left_in b' given n ≤ left_in b given n → left_of b' (given n) ≤ left_of b (given n) → left_in b' given n + left_of b' (given n) < left_in b given n + left_of b (given n)
      by (inl less) rest most here = let fewer = rest less it in omega (arith, fewer, here)
      by (inr past) rest most here =
          let same : session ≡ n = omega (arith, below, past) in
          let fewer = subst (λ s. left_of b' (given s) < left_of b (given s)) same it in omega (arith, most, fewer)
