-- A part of some bytes that lie together.
use Rattle.std.proofs.Common.{◌≡◌, ℕ, ◌+◌, ◌-◌, ◌≤◌, List, take, drop, length, ap, sym, ◌∙◌, arith, length-take}
use Rattle.std.proofs.lemmas.List.{drop-drop, drop-take, take-take}

within_most : (bytes : List ℕ) (most n : ℕ) → n ≤ length (take most bytes) → n ≤ most
within_most bytes most n within = let cut = length-take most bytes in omega (arith, within)

-- of the bytes behind the first `from`, `most` at most: the `len` behind the first `at`
pub part_of_window : (bytes : List ℕ) (from most at len : ℕ) → at + len ≤ length (take most (drop from bytes)) → take len (drop (from + at) bytes) ≡ take len (drop at (take most (drop from bytes)))
part_of_window bytes from most at len within =
    let fits : at + len ≤ most = within_most (drop from bytes) most (at + len) within in
    let rest : most ≡ at + (most - at) = omega (arith, fits) in
    sym (ap (λ n. take len (drop at (take n (drop from bytes)))) rest ∙ ap (take len) (drop-take at (most - at) (drop from bytes))
    ∙ take-take len (most - at) (drop at (drop from bytes)) (omega (arith, fits)) ∙ ap (take len) (drop-drop at from bytes))
