-- The lines of the slots from one on, as one slot more is taken before them.
use Rattle.std.proofs.Common.{◌≡◌, ℕ, ◌+◌, ◌-◌, ◌<◌, ◌≤◌, suc, List, ◌∷◌, ◌++◌, Option, Some, None, sym, ap, ◌∙◌, arith}
use Rattle.std.specs.List.{flat_map, range_with_len}
use Rattle.rbd_world.specs.Step.{ascending, insert_line, line_or_none}

from_before : (slot : ℕ) → 0 < slot → slot ≤ 65 → range_with_len (slot - 1) (65 - (slot - 1)) ≡ (slot - 1) ∷ range_with_len slot (65 - slot)
from_before slot positive within =
    ap (range_with_len (slot - 1)) (one_more slot positive within) ∙ ap (λ (n : ℕ). (slot - 1) ∷ range_with_len n (65 - slot)) (again slot positive)
  where
    one_more : (slot : ℕ) → 0 < slot → slot ≤ 65 → 65 - (slot - 1) ≡ suc (65 - slot)
    one_more slot positive within = omega (arith, positive, within)

    again : (slot : ℕ) → 0 < slot → slot - 1 + 1 ≡ slot
    again slot positive = omega (arith, positive)

module _ (line_in : ℕ → Option ℕ) where
  abbrev pub lines_from : (slot : ℕ) → List ℕ
  lines_from slot = ascending (flat_map (λ n. line_or_none (line_in n)) (range_with_len slot (65 - slot)))

  taken_before : (slot : ℕ) (o : Option ℕ) → 0 < slot → slot ≤ 65 → o ≡ line_in (slot - 1)
      → lines_from (slot - 1) ≡ ascending (line_or_none o ++ flat_map (λ n. line_or_none (line_in n)) (range_with_len slot (65 - slot)))
  taken_before slot o positive within is =
      ap (λ (xs : List ℕ). ascending (flat_map (λ n. line_or_none (line_in n)) xs)) (from_before slot positive within)
      ∙ ap (λ (p : Option ℕ). ascending (line_or_none p ++ flat_map (λ n. line_or_none (line_in n)) (range_with_len slot (65 - slot)))) (sym is)

  pub with_line : (lost : List ℕ) (slot line : ℕ) → 0 < slot → slot ≤ 65 → Some line ≡ line_in (slot - 1) → lost ≡ lines_from slot → insert_line line lost ≡ lines_from (slot - 1)
  with_line lost slot line positive within is before = ap (insert_line line) before ∙ sym (taken_before slot (Some line) positive within is)

  pub without_line : (lost : List ℕ) (slot : ℕ) → 0 < slot → slot ≤ 65 → None ≡ line_in (slot - 1) → lost ≡ lines_from slot → lost ≡ lines_from (slot - 1)
  without_line lost slot positive within is before = before ∙ sym (taken_before slot None positive within is)
