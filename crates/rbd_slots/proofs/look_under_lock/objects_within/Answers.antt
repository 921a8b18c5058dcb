use Rattle.std.proofs.Common.{◌+◌, ◌≤◌, nat_lt, nat_le, arith}
use Rattle.std.proofs.lemmas.Bool.{and_parts, leb-true}
use Rattle.rbd_layout.proofs.Bounds.{few_bytes}
use Rattle.rbd_slots.proofs.look_under_lock.objects_within.Goals as goal

pub objects_within-requires-clause-end : goal.objects_within-requires-clause-end
objects_within-requires-clause-end c =
    let few : c.args.header.now.size ≤ 35184372088832 = few_bytes c.args.header.now.layout c.requires.form.layout c.args.header.now.size c.requires.form.objects in
    let parts = and_parts (nat_lt 0 c.args.extent.now.len) (nat_le (c.args.extent.now.at + c.args.extent.now.len) c.args.header.now.size) c.requires.fits in
    let within : c.args.extent.now.at + c.args.extent.now.len ≤ c.args.header.now.size = leb-true (c.args.extent.now.at + c.args.extent.now.len) c.args.header.now.size parts.1 in
    omega arith
