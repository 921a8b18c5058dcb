use Rattle.rbd_machine.specs.Path.{at_operation}
use Rattle.rbd_machine.specs.Plan.{plan_after}
use Rattle.rbd_slots.specs.Advance.{track_of, fed_by, waits_left}
use Rattle.rbd_slots.specs.Track.{run}
use Rattle.rbd_slots.proofs.Advancing.{IsAdvancing}
use Rattle.rbd_slots.proofs.advance.advance.Given as goal

abbrev pub invariant-loop-want : goal.invariant-loop-want
invariant-loop-want g l =
    IsAdvancing g.R.Machine.stands l.slot l.fn.running l.fn.lines (g.R.Machine.stands l.fn.running.request).labels
    (at_operation (g.R.Machine.stands l.fn.running.request).labels (plan_after (g.R.Machine.stands l.fn.running.request).plan l.fed))
    (run l.slot (plan_after (g.R.Machine.stands l.fn.running.request).plan l.fed)
    (fed_by l.slot l.fn.running.extent (track_of l.fn.running l.fn.lines) (g.R.Machine.stands l.fn.running.request).plan l.fed))
    l.turn l.running l.lines l.due

abbrev pub decreases-loop-want : goal.decreases-loop-want
decreases-loop-want g l = waits_left l.turn (g.R.Machine.stands l.running.request).plan
