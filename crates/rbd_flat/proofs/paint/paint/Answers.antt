use Rattle.std.proofs.Common.{◌+◌, ℕ, List, drop, ◌∙◌, sym}
use Rattle.std.specs.List.{flat_map}
use Rattle.rbd_flat.specs.declared.extents.Series.{Series}
use Rattle.rbd_flat.specs.Flat.{painted, places_of}
use Rattle.rbd_flat.specs.Series.{extents_in}
use Rattle.rbd_flat.proofs.Painted.{several_step}
use Rattle.rbd_flat.proofs.paint.paint.Goals as goal

pub loop-series-preserved : goal.loop-series-preserved
loop-series-preserved c =
    let i = c.loop-series.series-index in
    let all = c.as_slice-series-items.result.now in
    let later : List ℕ = places_of (flat_map extents_in (drop (i + 1) all)) in
    let d : Series = record { first = record { at = 0; len = 0 }; step = 0; count = 0 } in
    (λ j. painted later (c.paint_series-rest.ensures.rest j) (c.paint_series-rest.ensures.bytes j))
    ∙ sym (several_step all i d c.loop-series.rest.now c.loop-series.bytes c.loop-series-test.true)
    ∙ c.loop-series.invariant
