use Rattle.std.proofs.Common.{sym, ap, ◌∙◌}
use Rattle.rbd_layout.proofs.Listed.{found, none_found, numbers, objects_between, passed}
use Rattle.rbd_layout.proofs.extent.objects_within.Goals as goal
use Rattle.rbd_layout.proofs.extent.objects_within.Goals.{then-bytes_in-gt0+in_ok-push, else-bytes_in-gt0}

pub loop-object-init : goal.loop-object-init
loop-object-init c =
    rw (c.new-touched.ensures.items, c.first_object-first.ensures)
    (ap numbers (sym (objects_between c.args.layout.now c.requires.layout c.args.extent.now c.objects-end.result c.objects-end.ensures.count)))

pub loop-object-preserved : goal.loop-object-preserved
loop-object-preserved c =
    elim c.if-bytes_in-gt0.branch [
      | then-bytes_in-gt0+in_ok-push w ↦
          rw (w.touched-is, w.in_ok-push.ensures.items)
          (found c.args.layout.now c.requires.layout c.args.extent.now c.loop-object.object c.objects-end.result c.loop-object.touched.items c.loop-object-test.true
          c.bytes_in.result c.bytes_in.ensures w.if-bytes_in-gt0.true
          ∙ c.loop-object.invariant)
      | else-bytes_in-gt0 w ↦
          rw w.touched-is
          (passed c.args.layout.now c.requires.layout c.args.extent.now c.loop-object.object c.objects-end.result c.loop-object.touched.items c.loop-object-test.true
          c.bytes_in.result c.bytes_in.ensures w.if-bytes_in-gt0.false
          ∙ c.loop-object.invariant)
    ]

pub returns : goal.returns
returns c =
    sym (none_found c.args.layout.now c.args.extent.now c.loop-object.object c.objects-end.result c.loop-object.touched.items c.loop-object-test.false)
    ∙ c.loop-object.invariant
