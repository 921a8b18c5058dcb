-- Plain facts on tests, choices and ranges that std has under no name.
use Rattle.std.proofs.Common.{◌≡◌, ℕ, zero, suc, ◌+◌, Bool, true, false, cond, ◌||◌, eqb, List, ◌∷◌, ◌++◌, refl, ap, arith}
use Rattle.std.specs.List.{range_with_len}

pub eqb_flip : (a b : ℕ) → eqb a b ≡ eqb b a
eqb_flip a b = grind arith

-- a choice between one value and itself
pub cond_same : {X : Type 0} (b : Bool) (x : X) → cond b x x ≡ x
cond_same true x = refl
cond_same false x = refl

pub or_swapped : (a b c : Bool) → (a || (b || c)) ≡ (b || (a || c))
or_swapped true true c = refl
or_swapped true false c = refl
or_swapped false b c = refl

-- a range cut in two
pub range_append : (a m n : ℕ) → range_with_len a (m + n) ≡ range_with_len a m ++ range_with_len (a + m) n
range_append a zero n =
    let e : 0 + n ≡ n = omega arith in
    let d : a + 0 ≡ a = omega arith in
    rw (e, d) refl
range_append a (suc m) n =
    let e : suc m + n ≡ suc (m + n) = omega arith in
    let d : a + suc m ≡ a + 1 + m = omega arith in
    rw (e, d) (ap (λ (xs : List ℕ). a ∷ xs) (range_append (a + 1) m n))
