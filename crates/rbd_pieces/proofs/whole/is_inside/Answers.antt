use Rattle.std.proofs.Common.{◌≤◌, ◌<◌, arith}
use Rattle.rbd_kinds.specs.Striping.{byte_at}
use Rattle.rbd_layout.proofs.Bounds.{few_bytes}
use Rattle.rbd_pieces.proofs.whole.is_inside.Goals as goal

pub back-requires-clause-byte : goal.back-requires-clause-byte
back-requires-clause-byte c =
    let h = c.args.header.now in
    let few : h.size ≤ 35184372088832 = few_bytes h.layout c.requires.form.layout h.size c.requires.form.objects in
    let below : byte_at h.layout c.args.object 0 < h.size = c.requires.head in
    omega arith
