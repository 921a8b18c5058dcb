use Rattle.std.proofs.Common.{◌≡◌, ◌+◌, ◌-◌, arith}
use Rattle.rbd_layout.proofs.Places.{count_of_short, count_of_full}
use Rattle.rbd_layout.proofs.count.objects.Goals as goal

pub returns-then-last-layout : goal.returns-then-last-layout
returns-then-last-layout c =
    let last : c.args.size - 1 + 1 ≡ c.args.size = omega arith in
    record {
      count = rw c.place-last.ensures.object
          (count_of_short c.args.layout.now c.requires.layout c.args.size (c.args.size - 1) last
          (rw c.place-last.ensures.offset at c.if-last-layout.true));
    }

pub returns : goal.returns
returns c =
    let last : c.args.size - 1 + 1 ≡ c.args.size = omega arith in
    record {
      count = rw (c.place-last.ensures.object, c.from-count.ensures)
          (count_of_full c.args.layout.now c.requires.layout c.args.size (c.args.size - 1) last
          (rw c.place-last.ensures.offset at c.if-last-layout.false));
    }
