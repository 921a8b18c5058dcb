-- The parts of a flat image as the code keeps them.
use Rattle.std.proofs.Common.{◌≡◌, ℕ, ◌-◌, ◌<◌, List, ◌++◌, length, get_or, take, sym, ◌∙◌, arith, inl, inr, length-append, length-take}
use Rattle.std.proofs.lemmas.Bool.{cases_lt}
use Rattle.std.proofs.lemmas.List.{length-replicate, get_or-replicate, get_or_append_left, get_or-append_right, get_or-take, get_or_past}
use Rattle.std.proofs.lemmas.List.FromFn.{fill_by_all}
use Rattle.std.specs.Prelude.{replicate}
use Rattle.rbd_flat.specs.Flat.{resized}

-- cut, or filled up with zeros
pub cut_or_filled : (n : ℕ) (old : List ℕ) → take n old ++ replicate (n - length old) 0 ≡ resized n old
cut_or_filled n old = fill_by_all (λ x. get_or old x 0) (take n old ++ replicate (n - length old) 0) n 0 long each
  where
    zeros : List ℕ
    zeros = replicate (n - length old) 0

    zeros_long : length zeros ≡ n - length old
    zeros_long = length-replicate (n - length old) 0

    long : length (take n old ++ zeros) ≡ n
    long = omega (arith, length-append (take n old) zeros, length-take n old, zeros_long)

    each : (k : ℕ) → k < n → get_or (take n old ++ zeros) k 0 ≡ get_or old k 0
    each k h = elim (cases_lt k (length old)) [
      | inl within ↦
          let l : k < length (take n old) = omega (arith, length-take n old) in
          get_or_append_left (take n old) zeros 0 k l ∙ get_or-take n old k 0 h
      | inr past ↦
          let l : length (take n old) ≡ length old = omega (arith, length-take n old) in
          get_or-append_right (take n old) zeros (length old) k 0 l past
          ∙ get_or-replicate (n - length old) (k - length old) 0 0 (omega arith)
          ∙ sym (get_or_past old k 0 past)
    ]
