use Rattle.std.proofs.Common.{◌≤◌, arith}
use Rattle.rbd_layout.proofs.Bounds.{few_bytes}
use Rattle.rbd_meaning.proofs.Counts.{counts, one_count}
use Rattle.rbd_image.proofs.listing.object_count.Goals as goal

pub objects-requires-clause-size : goal.objects-requires-clause-size
objects-requires-clause-size c =
    let h = c.args.header.now in
    let few : h.size ≤ 35184372088832 = few_bytes h.layout c.requires.layout h.size c.requires.objects in
    omega (arith, few)

pub returns : goal.returns
returns c =
    let h = c.args.header.now in
    one_count h.layout h.size c.objects.result _ c.objects.ensures.count (counts h.layout h.size c.requires.layout)
