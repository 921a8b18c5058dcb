-- Bytes that lie together, as a window of the bytes.
use Rattle.std.proofs.Common.{◌≡◌, ℕ, ◌+◌, ◌-◌, ◌<◌, ◌≤◌, List, [], ◌∷◌, length, get_or, take, drop, sym, ◌∙◌, arith, length-take, length-drop}
use Rattle.std.proofs.lemmas.List.{append-nil, get_or-take, get_or-drop}
use Rattle.std.proofs.lemmas.List.FromFn.{fill_by_all}
use Rattle.rbd_kinds.specs.declared.layout.Part.{Part}
use Rattle.rbd_parts.specs.Contents.{window}
use Rattle.rbd_parts.specs.Parts.{bytes_for}

slice-window : (bytes : List ℕ) (at len : ℕ) → at + len ≤ length bytes → take len (drop at bytes) ≡ window bytes at len
slice-window bytes at len within =
    fill_by_all (λ i. get_or bytes (at + i) 0) (take len (drop at bytes)) len 0
    (let d = length-drop at bytes in length-take len (drop at bytes) ∙ omega arith)
    (λ k h. get_or-take len (drop at bytes) k 0 h ∙ get_or-drop at bytes k 0)

-- what a single part has
pub sole_part : (parts : List Part) (d : Part) (from : ℕ) (bytes : List ℕ) → 1 ≤ length parts → length parts < 2
    → (get_or parts 0 d).at - from + (get_or parts 0 d).len ≤ length bytes
    → take (get_or parts 0 d).len (drop ((get_or parts 0 d).at - from) bytes) ≡ bytes_for parts from bytes
sole_part [] d from bytes some few within = absurd (omega arith)
sole_part (p ∷ []) d from bytes some few within = slice-window bytes (p.at - from) p.len within ∙ sym (append-nil _)
sole_part (p ∷ q ∷ parts) d from bytes some few within = absurd (omega arith)
