-- Which extents a series is.
use Rattle.std.specs.Prelude.{ℕ, zero, suc, ◌+◌, List, [], ◌∷◌}
use Rattle.rbd_kinds.specs.declared.layout.Extent.{Extent}
use Rattle.rbd_flat.specs.declared.extents.Series.{Series}

-- so many extents, each a step behind the one before
abbrev pub extents_from : (first : Extent) (step count : ℕ) → List Extent
extents_from first step zero = []
extents_from first step (suc n) = first ∷ extents_from (record first { at = first.at + step }) step n

abbrev pub extents_in : Series → List Extent
extents_in s = extents_from s.first s.step s.count
