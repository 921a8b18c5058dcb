use Rattle.std.proofs.Common.{◌<◌, length, get_or, set, ap, ◌∙◌, arith}
use Rattle.std.proofs.lemmas.List.{get_or_default}
use Rattle.std.proofs.lemmas.List.Edits.{map_over_more}
use Rattle.rbd_queue.specs.declared.standing.LineMember.{LineMember}
use Rattle.rbd_queue.specs.Kept.{held_at}
use Rattle.rbd_queue.proofs.standing.hold_each.Goals as goal

pub loop-standing-preserved : goal.loop-standing-preserved
loop-standing-preserved c =
    let i = c.loop-standing.standing-index in
    let now = c.loop-standing.members in
    let d = c.standing-item.result in
    let within : i < length now = omega arith in
    ap (λ (s : LineMember). set now i s) c.hold_one.ensures
    ∙ map_over_more (held_at c.args.slot) c.args.members.now now i (get_or now i d)
    c.loop-standing-test.true c.loop-standing.invariant (get_or_default now i d (get_or now i d) within)
