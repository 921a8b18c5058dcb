use Rattle.std.proofs.Common.{◌≡◌, ◌*◌, ◌/◌, ◌≤◌, arith}
use Rattle.std.proofs.Math.Nat.{div-mul-le_self}
use Rattle.rbd_kinds.specs.Striping.{object_of}
use Rattle.rbd_layout.proofs.Limits.{shape_of}
use Rattle.rbd_layout.proofs.Places.{held_all, held_none, held_own, held_before, held_after, offset_within}
use Rattle.rbd_layout.proofs.extent.held.Goals as goal

pub returns-then-object-count : goal.returns-then-object-count
returns-then-object-count c = record {
  held = held_all c.args.layout.now c.requires.layout c.args.object c.args.below
      (rw (c.from-count.ensures, c.place-next.ensures.object) at c.if-object-count.true);
}

pub returns-then-object-count-2 : goal.returns-then-object-count-2
returns-then-object-count-2 c = record {
  held = held_none c.args.layout.now c.requires.layout c.args.object c.args.below
      (rw (c.from-count.ensures, c.place-next.ensures.object) at c.if-object-count-2.true);
}

pub overflow_add-result : goal.overflow_add-result
overflow_add-result c =
    let low : c.place-next.result.offset / c.args.layout.now.unit * c.args.layout.now.unit ≤ c.place-next.result.offset =
    div-mul-le_self c.place-next.result.offset c.args.layout.now.unit in
    let s = shape_of c.args.layout.now c.requires.layout in
    let within = offset_within c.args.layout.now c.requires.layout c.args.below in
    let offset = c.place-next.ensures.offset in
    omega (arith, s.object_most, s.unit_most)

pub returns-then-object-next : goal.returns-then-object-next
returns-then-object-next c =
    let same : c.args.object / c.from-count.result ≡ c.place-next.result.object / c.from-count.result = omega arith in
    record {
      held = rw c.place-next.ensures.offset
          (held_before c.args.layout.now c.requires.layout c.args.object c.args.below
          (rw (c.from-count.ensures, c.place-next.ensures.object) at same)
          (rw c.place-next.ensures.object at c.if-object-next.true));
    }

pub returns-then-object-next-2 : goal.returns-then-object-next-2
returns-then-object-next-2 c =
    let same : c.args.object / c.from-count.result ≡ c.place-next.result.object / c.from-count.result = omega arith in
    record {
      held = rw c.place-next.ensures.offset
          (held_after c.args.layout.now c.requires.layout c.args.object c.args.below
          (rw (c.from-count.ensures, c.place-next.ensures.object) at same)
          (rw c.place-next.ensures.object at c.if-object-next-2.true));
    }

pub returns : goal.returns
returns c =
    let own : c.args.object ≡ object_of c.args.layout.now c.args.below =
    rw c.place-next.ensures.object at (let e : c.args.object ≡ c.place-next.result.object = omega arith in e) in
    record {
      held = rw (c.place-next.ensures.offset, own) (held_own c.args.layout.now c.requires.layout c.args.below);
    }
