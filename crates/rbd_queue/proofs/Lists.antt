-- Lists of numbers: what is mapped and left out.
use Rattle.std.proofs.Common.{◌≡◌, ℕ, Bool, true, false, cond, ◌||◌, eqb, List, [], ◌∷◌, map, refl, sym, ap, ◌∙◌, true≢false}
use Rattle.std.specs.List.{filter}
use Rattle.std.proofs.lemmas.Bool.{eqb-true}
use Rattle.rbd_guard.specs.Order.{is_in, AreApart}
use Rattle.rbd_guard.proofs.Apart.{head_in, tail_in}

-- two functions that agree on what is in a list
pub map_same : (f g : ℕ → ℕ) (xs : List ℕ) → ((t : ℕ) → is_in t xs ≡ true → f t ≡ g t) → map f xs ≡ map g xs
map_same f g [] same = refl
map_same f g (x ∷ xs) same =
    ap (λ n. n ∷ map f xs) (same x (head_in x xs)) ∙ ap (λ l. g x ∷ l) (map_same f g xs (λ t here. same t (tail_in x t xs here)))

-- a test of numbers, and one of what they are mapped to
pub map_filter : (f g : ℕ → ℕ) (p q : ℕ → Bool) (xs : List ℕ) → ((t : ℕ) → is_in t xs ≡ true → p t ≡ q (g t))
    → ((t : ℕ) → is_in t xs ≡ true → p t ≡ true → f t ≡ g t) → map f (filter p xs) ≡ filter q (map g xs)
map_filter f g p q [] test same = refl
map_filter f g p q (x ∷ xs) test same =
    by (p x) refl (map_filter f g p q xs (λ t here. test t (tail_in x t xs here)) (λ t here. same t (tail_in x t xs here)))
    ∙ ap (λ b. cond b (g x ∷ filter q (map g xs)) (filter q (map g xs))) (test x (head_in x xs))
  where
    by : (b : Bool) → p x ≡ b → map f (filter p xs) ≡ filter q (map g xs)
        → map f (cond b (x ∷ filter p xs) (filter p xs)) ≡ cond b (g x ∷ filter q (map g xs)) (filter q (map g xs))
    by true e rest = ap (λ n. n ∷ map f (filter p xs)) (same x (head_in x xs) e) ∙ ap (λ l. g x ∷ l) rest
    by false e rest = rest

-- what is in a list is in what it is mapped to
pub mapped_in : (f : ℕ → ℕ) (xs : List ℕ) (t : ℕ) → is_in t xs ≡ true → is_in (f t) (map f xs) ≡ true
mapped_in f [] t here = absurd (true≢false (sym here))
mapped_in f (x ∷ xs) t here = by (eqb x t) refl here (λ there. mapped_in f xs t there)
  where
    by : (b : Bool) → eqb x t ≡ b → (b || is_in t xs) ≡ true → (is_in t xs ≡ true → is_in (f t) (map f xs) ≡ true) → is_in (f t) (f x ∷ map f xs) ≡ true
    by true e here rest = ap (λ n. is_in n (f x ∷ map f xs)) (sym (ap f (eqb-true x t e))) ∙ head_in (f x) (map f xs)
    by false e here rest = tail_in (f x) (f t) (map f xs) (rest here)

-- where nothing is mapped to the same, what is mapped to what the first is is the first
pub first_alone : (f : ℕ → ℕ) (x : ℕ) (xs : List ℕ) (t : ℕ) → AreApart (map f (x ∷ xs)) → is_in t (x ∷ xs) ≡ true → f t ≡ f x → t ≡ x
first_alone f x xs t apart here same = by (eqb x t) refl here
  where
    by : (b : Bool) → eqb x t ≡ b → (b || is_in t xs) ≡ true → t ≡ x
    by true e here = sym (eqb-true x t e)
    by false e here = absurd (true≢false (sym (mapped_in f xs t here) ∙ (ap (λ n. is_in n (map f xs)) same ∙ apart.0)))
