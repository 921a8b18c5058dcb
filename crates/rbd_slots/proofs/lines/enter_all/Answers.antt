use Rattle.std.proofs.Common.{◌+◌, drop, slice_index_or}
use Rattle.rbd_queue.specs.Line.{changed_member}
use Rattle.rbd_slots.specs.Track.{given_tickets}
use Rattle.rbd_slots.proofs.Entering.{MayTakeNext, begins, takes_next, goes_on, at_next, at_end}
use Rattle.rbd_slots.proofs.lines.enter_all.Goals as goal

pub loop-object-init : goal.loop-object-init
loop-object-init c = begins c.args.slot c.args.objects.now c.args.line.now c.requires.0 c.requires.1

next : (c : goal.After-row_known-1) → MayTakeNext c.args.slot (slice_index_or c.args.objects.now c.loop-object.object-index 0) c.loop-object.line
next c =
    takes_next c.args.slot (changed_member c.args.slot (given_tickets c.args.objects.now) c.args.line.now.members) (slice_index_or c.args.objects.now c.loop-object.object-index 0)
    (drop (c.loop-object.object-index + 1) c.args.objects.now) c.loop-object.line
    (at_next c.args.slot c.args.objects.now c.args.line.now.members c.loop-object.object-index c.loop-object.line c.loop-object-test.true c.loop-object.invariant)

pub enter-requires-clause-member : goal.enter-requires-clause-member
enter-requires-clause-member c = (next c).member

pub enter-requires-clause-last : goal.enter-requires-clause-last
enter-requires-clause-last c = (next c).last

pub enter-requires-clause-once : goal.enter-requires-clause-once
enter-requires-clause-once c = (next c).once

pub enter-requires-clause-room : goal.enter-requires-clause-room
enter-requires-clause-room c = (next c).room

pub loop-object-preserved : goal.loop-object-preserved
loop-object-preserved c =
    goes_on c.args.slot (changed_member c.args.slot (given_tickets c.args.objects.now) c.args.line.now.members) (slice_index_or c.args.objects.now c.loop-object.object-index 0)
    (drop (c.loop-object.object-index + 1) c.args.objects.now) c.loop-object.line c.enter.new.self
    (at_next c.args.slot c.args.objects.now c.args.line.now.members c.loop-object.object-index c.loop-object.line c.loop-object-test.true c.loop-object.invariant)
    c.enter.ensures.members c.enter.ensures.reserved

pub returns : goal.returns
returns c = record {
  members = at_end c.args.slot c.args.objects.now c.args.line.now.members c.loop-object.object-index c.loop-object.line c.loop-object-test.false c.loop-object.invariant;
}
