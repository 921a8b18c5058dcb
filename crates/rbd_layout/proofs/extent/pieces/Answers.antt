use Rattle.rbd_layout.proofs.Gather.{gather_begins, gather_passes, gather_adds, gather_ends, some_items}
use Rattle.rbd_layout.proofs.extent.pieces.Goals as goal
use Rattle.rbd_layout.proofs.extent.pieces.Goals.{then-not-is_empty+in_ok-push, else-not-is_empty}

pub loop-object-init : goal.loop-object-init
loop-object-init c =
    rw (c.new-pieces.ensures.items, c.first_object-first.ensures)
    (gather_begins c.args.layout.now c.requires.layout c.args.extent.now)

pub loop-object-preserved : goal.loop-object-preserved
loop-object-preserved c =
    elim c.if-not-is_empty.branch [
      | then-not-is_empty+in_ok-push w ↦
          rw (w.pieces-is, w.in_ok-push.ensures.items)
          (gather_adds c.args.layout.now c.args.extent.now c.loop-object.object c.loop-object.pieces.items c.in_ok-parts.parts c.in_ok-parts.ensures.parts
          (some_items c.in_ok-parts.parts c.is_empty.result c.is_empty.ensures.1 w.if-not-is_empty.true) c.loop-object.invariant)
      | else-not-is_empty w ↦
          rw w.pieces-is
          (gather_passes c.args.layout.now c.args.extent.now c.loop-object.object c.loop-object.pieces.items
          (rw (c.is_empty.ensures.0 w.if-not-is_empty.false) at c.in_ok-parts.ensures.parts) c.loop-object.invariant)
    ]

pub returns : goal.returns
returns c = record {
  pieces = gather_ends c.args.layout.now c.args.extent.now c.objects-end.result c.loop-object.object c.loop-object.pieces.items c.objects-end.ensures.count c.loop-object-test.false c.loop-object.invariant;
}
