use Rattle.std.proofs.Common.{◌<◌, length, get_or, set, ap, ◌∙◌, arith}
use Rattle.std.proofs.lemmas.List.{get_or_default}
use Rattle.std.proofs.lemmas.List.Edits.{map_over_more}
use Rattle.rbd_kinds.specs.declared.header.SnapView.{SnapView}
use Rattle.rbd_header.specs.Header.{status_marked}
use Rattle.rbd_header.proofs.snaps.mark_each.Goals as goal

pub loop-found-preserved : goal.loop-found-preserved
loop-found-preserved c =
    let i = c.loop-found.found-index in
    let now = c.loop-found.snaps in
    let d = c.found-item.result in
    let within : i < length now = omega arith in
    ap (λ (s : SnapView). set now i s) c.mark_one.ensures
    ∙ map_over_more (status_marked c.args.snap c.args.status) c.args.snaps.now now i (get_or now i d)
    c.loop-found-test.true c.loop-found.invariant (get_or_default now i d (get_or now i d) within)
