use Rattle.std.proofs.Common.{◌≡◌, ◌+◌, ◌*◌, ◌≤◌, length, drop, ap, ◌∙◌, sym, arith}
use Rattle.std.specs.List.{range_with_len}
use Rattle.std.proofs.lemmas.List.{drop-drop}
use Rattle.rbd_flat.specs.Flat.{painted}
use Rattle.rbd_flat.proofs.Painted.{painted_bounded, series_step}
use Rattle.rbd_flat.proofs.paint.paint_series.Goals as goal

pub loop-k-preserved : goal.loop-k-preserved
loop-k-preserved c =
    let s = c.args.series.now in
    let k = c.loop-k.k in
    let bounded : length c.loop-k.bytes ≤ 18446744073709551615 = omega arith in
    let count : k * s.first.len + s.first.len ≡ (k + 1) * s.first.len = omega arith in (
      c.paint_extent.ensures
          ∙ ap (λ a. painted (range_with_len a s.first.len) c.loop-k.rest.now c.loop-k.bytes) c.begin-at.ensures
          ∙ painted_bounded (s.first.at + k * s.step) 18446744073709551615 s.first.len c.loop-k.rest.now c.loop-k.bytes bounded
          ∙ (λ i. painted (range_with_len (s.first.at + k * s.step) s.first.len) (c.loop-k.invariant.1 i) (c.loop-k.invariant.0 i))
          ∙ sym (series_step s.first s.step k c.args.new.now c.args.bytes.now),
      c.behind-rest.ensures
          ∙ ap (drop s.first.len) c.loop-k.invariant.1
          ∙ drop-drop s.first.len (k * s.first.len) c.args.new.now
          ∙ ap (λ n. drop n c.args.new.now) count,
    )
