-- Lists that are equal up to their last step.
use Rattle.std.proofs.Common.{◌≡◌, List, [], ◌∷◌, ◌++◌, refl, ap, ◌∙◌}
use Rattle.rbd_machine.specs.Path.{Answered}

pub same_last : (one two : List Answered) (s t : Answered) → one ++ s ∷ [] ≡ two ++ t ∷ [] → s ≡ t
same_last [] [] s t same = cc
same_last [] (v ∷ []) s t same = cc
same_last [] (v ∷ w ∷ two) s t same = cc
same_last (u ∷ []) [] s t same = cc
same_last (u ∷ w ∷ one) [] s t same = cc
same_last (u ∷ one) (v ∷ two) s t same = let rest : one ++ s ∷ [] ≡ two ++ t ∷ [] = cc in same_last one two s t rest

pub same_front : (one two : List Answered) (s t : Answered) → one ++ s ∷ [] ≡ two ++ t ∷ [] → one ≡ two
same_front [] [] s t same = refl
same_front [] (v ∷ []) s t same = cc
same_front [] (v ∷ w ∷ two) s t same = cc
same_front (u ∷ []) [] s t same = cc
same_front (u ∷ w ∷ one) [] s t same = cc
same_front (u ∷ one) (v ∷ two) s t same =
    let rest : one ++ s ∷ [] ≡ two ++ t ∷ [] = cc in
    let first : u ≡ v = cc in
    ap (λ h. h ∷ one) first ∙ ap (λ r. v ∷ r) (same_front one two s t rest)
