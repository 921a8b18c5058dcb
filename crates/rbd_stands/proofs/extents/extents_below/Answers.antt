use Rattle.std.proofs.Common.{◌≤◌, ◌<◌, arith}
use Rattle.rbd_kinds.specs.Striping.{byte_at}
use Rattle.rbd_layout.proofs.Bounds.{few_bytes}
use Rattle.rbd_stands.proofs.extents.extents_below.Goals as goal

pub held_below-held-requires-clause-size : goal.held_below-held-requires-clause-size
held_below-held-requires-clause-size c =
    let few : c.args.header.now.size ≤ 35184372088832 = few_bytes c.args.header.now.layout c.requires.form.layout c.args.header.now.size c.requires.form.objects in
    omega arith

pub push_part-requires-clause-within : goal.push_part-requires-clause-within
push_part-requires-clause-within c = λ offset less.
    let few : c.args.header.now.size ≤ 35184372088832 = few_bytes c.args.header.now.layout c.requires.form.layout c.args.header.now.size c.requires.form.objects in
    let below : byte_at c.args.header.now.layout c.args.object offset < c.args.header.now.size = (c.held_below-held.ensures.each offset).0 less in
    omega arith
