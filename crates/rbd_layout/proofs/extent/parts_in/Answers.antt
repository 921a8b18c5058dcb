use Rattle.std.proofs.Common.{arith, ◌≤◌, ◌+◌, inl, inr}
use Rattle.rbd_layout.proofs.Cover.{held_mono}
use Rattle.rbd_layout.proofs.Walk.{IsRun, walk_begins, walk_goes_on, walk_ends}
use Rattle.rbd_layout.proofs.extent.parts_in.Goals as goal
use Rattle.rbd_layout.proofs.extent.parts_in.Goals.{then-layout-eq1, else-layout-eq1}

pub loop-offset-init : goal.loop-offset-init
loop-offset-init c =
    rw c.new-parts.ensures
    (walk_begins c.args.layout.now c.args.object c.held-offset.result c.held-end.result
    (held_mono c.args.layout.now c.requires.layout c.args.object c.args.extent.now.at (c.args.extent.now.at + c.args.extent.now.len) c.held-offset.result c.held-end.result (omega arith) c.held-offset.ensures.held c.held-end.ensures.held))

pub loop-offset-preserved : goal.loop-offset-preserved
loop-offset-preserved c =
    let is_run : IsRun c.args.layout.now c.if-layout-eq1.run =
    elim c.if-layout-eq1.branch [ then-layout-eq1 w ↦ inl (w.if-layout-eq1.true, w.run-is) | else-layout-eq1 w ↦ inr (w.if-layout-eq1.false, w.run-is) ] in
    let inside : c.held-end.result ≤ c.args.layout.now.object = c.held-end.ensures.held.within in
    rw (c.in_ok-push.ensures.ok, c.back-at.ensures.byte)
    (walk_goes_on c.args.layout.now c.requires.layout c.if-layout-eq1.run is_run c.args.object c.held-offset.result c.loop-offset.offset c.held-end.result c.min-len.result c.loop-offset.parts
    c.loop-offset.invariant c.loop-offset-test.true inside c.min-len.ensures)

pub returns : goal.returns
returns c = record {
  parts = walk_ends c.args.layout.now c.requires.layout c.args.extent.now c.args.object c.held-offset.result c.loop-offset.offset c.held-end.result c.loop-offset.parts
      c.held-offset.ensures.held c.held-end.ensures.held c.loop-offset.invariant c.loop-offset-test.false;
}
