-- The snapshot context of a header, its ids newest first.
use Rattle.std.proofs.Common.{◌≡◌, ℕ, ◌||◌, eqb, List, [], ◌∷◌, ◌++◌, reverse, refl, ap, ◌∙◌}
use Rattle.std.proofs.lemmas.List.{reverse-append}
use Rattle.rbd_kinds.specs.declared.header.HeaderView.{HeaderView}
use Rattle.rbd_kinds.proofs.Plain.{or_swapped}
use Rattle.rbd_header.specs.Header.{context_of, ids_of}
use Rattle.rbd_object.specs.Kept.{is_listed}
use Rattle.rbd_stands.specs.Condition.{IsContextOf}
use Rattle.rbd_stands.proofs.StoreSteps.{context_from}

listed_more : (xs : List ℕ) (y t : ℕ) → is_listed (xs ++ y ∷ []) t ≡ (eqb y t || is_listed xs t)
listed_more [] y t = refl
listed_more (x ∷ xs) y t = ap (λ b. eqb x t || b) (listed_more xs y t) ∙ or_swapped (eqb x t) (eqb y t) (is_listed xs t)

listed_reversed : (xs : List ℕ) (t : ℕ) → is_listed (reverse xs) t ≡ is_listed xs t
listed_reversed [] t = refl
listed_reversed (x ∷ xs) t = ap (λ ys. is_listed ys t) (reverse-append (x ∷ []) xs) ∙ listed_more (reverse xs) x t ∙ ap (λ b. eqb x t || b) (listed_reversed xs t)

pub reversed_context : (h : HeaderView) → IsContextOf h (context_of h)
reversed_context h = context_from h (context_of h) refl (λ t listed. listed_reversed (ids_of h.snaps) t ∙ listed)
