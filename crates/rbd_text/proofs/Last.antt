-- The last that a function gives of a list, and of one item more.
use Rattle.std.proofs.Common.{◌≡◌, ℕ, ◌+◌, ◌<◌, List, [], ◌∷◌, ◌++◌, length, take, get_or, Option, Some, None, refl, ap, sym, ◌∙◌}
use Rattle.std.proofs.lemmas.List.{take_more}
use Rattle.std.specs.Option.{option_or, unwrap_or}
use Rattle.rbd_text.specs.Unanswered.{last_of}

or_none : {Y : Type 0} (o : Option Y) → option_or o None ≡ o
or_none None = refl
or_none (Some y) = refl

or_assoc : {Y : Type 0} (o p q : Option Y) → option_or (option_or o p) q ≡ option_or o (option_or p q)
or_assoc None p q = refl
or_assoc (Some y) p q = refl

unwrap_or-option_or : {Y : Type 0} (o p : Option Y) (d : Y) → unwrap_or (option_or o p) d ≡ unwrap_or o (unwrap_or p d)
unwrap_or-option_or None p d = refl
unwrap_or-option_or (Some y) p d = refl

last_append : {X Y : Type 0} (f : X → Option Y) (xs : List X) (x : X) → last_of f (xs ++ x ∷ []) ≡ option_or (f x) (last_of f xs)
last_append f [] x = sym (or_none (f x))
last_append f (y ∷ ys) x = ap (λ o. option_or o (f y)) (last_append f ys x) ∙ or_assoc (f x) (last_of f ys) (f y)

pub last_more : {X Y : Type 0} (f : X → Option Y) (xs : List X) (i : ℕ) (x : X) → i < length xs → last_of f (take (i + 1) xs) ≡ option_or (f (get_or xs i x)) (last_of f (take i xs))
last_more f xs i x within = ap (last_of f) (take_more xs i x within) ∙ last_append f (take i xs) (get_or xs i x)

-- or what there was before
pub last_more_or : {X Y : Type 0} (f : X → Option Y) (xs : List X) (i : ℕ) (x : X) (d : Y) → i < length xs
    → unwrap_or (last_of f (take (i + 1) xs)) d ≡ unwrap_or (f (get_or xs i x)) (unwrap_or (last_of f (take i xs)) d)
last_more_or f xs i x d within = ap (λ o. unwrap_or o d) (last_more f xs i x within) ∙ unwrap_or-option_or (f (get_or xs i x)) (last_of f (take i xs)) d
