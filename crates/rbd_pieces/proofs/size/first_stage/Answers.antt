use Rattle.std.proofs.Common.{◌≤◌, arith}
use Rattle.rbd_layout.proofs.Bounds.{few_bytes}
use Rattle.rbd_pieces.proofs.size.first_stage.Goals as goal

pub objects-objects-requires-clause-size : goal.objects-objects-requires-clause-size
objects-objects-requires-clause-size c =
    let layout = c.args.header.now.layout in
    let few : c.args.to ≤ 35184372088832 = few_bytes layout c.requires.form.layout c.args.to c.requires.few in
    omega arith
