use Rattle.std.proofs.Common.{◌-◌, ◌++◌, false, replicate, take_all, ap, ◌∙◌, arith}
use Rattle.std.specs.Vec.{vec_len}
use Rattle.rbd_schedule.specs.Playing.{mark_of}
use Rattle.rbd_schedule.proofs.Sorted.{more_places}
use Rattle.std.proofs.Common.{slice_get}
use Rattle.rbd_schedule.proofs.heard.make_place.Goals as goal

pub returns-clause-marks : goal.returns-clause-marks
returns-clause-marks c = λ other.
    ap (λ ms. mark_of (slice_get ms other))
    (c.in_ok-resize.ensures.items
    ∙ ap (λ ms. ms ++ replicate (c.in-Some.count - vec_len c.args.marks.now) false) (take_all c.in-Some.count c.args.marks.now.items (omega arith)))
    ∙ more_places c.args.marks.now.items (c.in-Some.count - vec_len c.args.marks.now) other
