use Rattle.std.proofs.Common.{◌<◌, length, get_or, set, ap, ◌∙◌, arith}
use Rattle.std.proofs.lemmas.List.{get_or_default}
use Rattle.std.proofs.lemmas.List.Edits.{map_over_more}
use Rattle.rbd_flat.specs.Flat.{FlatSnap, with_status}
use Rattle.rbd_flat.proofs.image.mark_snapshots.Goals as goal

pub loop-snapshot-preserved : goal.loop-snapshot-preserved
loop-snapshot-preserved c =
    let i = c.loop-snapshot.snapshot-index in
    let now = c.loop-snapshot.snaps in
    let d = c.snapshot-item.result in
    let within : i < length now = omega arith in
    ap (λ (s : FlatSnap). set now i s) c.mark.ensures
    ∙ map_over_more (with_status c.args.snap c.args.status) c.args.snaps.now now i (get_or now i d)
    c.loop-snapshot-test.true c.loop-snapshot.invariant (get_or_default now i d (get_or now i d) within)
