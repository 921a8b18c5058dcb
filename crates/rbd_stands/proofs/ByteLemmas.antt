-- Those of the bytes that are kept.
use Rattle.std.proofs.Common.{◌≡◌, ℕ, ◌≤◌, refl, sym, ◌∙◌, arith, List, [], ◌∷◌, ◌++◌, take, drop}
use Rattle.std.proofs.lemmas.List.{take-append-drop}
use Rattle.rbd_kinds.specs.declared.layout.Layout.{Layout}
use Rattle.rbd_kinds.specs.declared.layout.Part.{Part}
use Rattle.rbd_stands.specs.Kept.{IsHeldBelow, bytes_kept, kept_len}
use Rattle.rbd_stands.proofs.HeldLemmas.{many_places}
use Rattle.rbd_stands.specs.Effect.{bytes_below}

pub kept_below : (l : Layout) (size n held : ℕ) → IsHeldBelow l n size held → (parts : List Part) (bytes : List ℕ)
    → bytes_kept held parts bytes ≡ bytes_below l size n parts bytes
kept_below l size n held is [] bytes = refl
kept_below l size n held is (p ∷ parts) bytes =
    (λ i. take (sym (many_places l n size held is p) i) bytes ++ kept_below l size n held is parts (drop p.len bytes) i)

-- a part that is whole keeps its bytes, so that it is left to the others
pub whole_part : (held : ℕ) (p : Part) (parts : List Part) (rest : List ℕ) → p.len ≤ kept_len held p
    → bytes_kept held parts (drop p.len rest) ≡ drop p.len rest → bytes_kept held (p ∷ parts) rest ≡ rest
whole_part held p parts rest whole others =
    let same : kept_len held p ≡ p.len = omega arith in
    (λ i. take (same i) rest ++ others i) ∙ take-append-drop p.len rest
