use Rattle.std.proofs.Common.{arith}
use Rattle.rbd_pieces.specs.Zero.{head_of}
use Rattle.rbd_pieces.proofs.AllBytes.{ends_early, whole_by_sums}
use Rattle.rbd_pieces.proofs.whole.is_whole.Goals as goal

pub bytes_in-requires-clause-end : goal.bytes_in-requires-clause-end
bytes_in-requires-clause-end c = ends_early c.args.header.now c.args.extent.now c.requires.form c.requires.within

pub bytes_in-requires-2-clause-end : goal.bytes_in-requires-2-clause-end
bytes_in-requires-2-clause-end c = ends_early c.args.header.now (head_of c.args.header.now) c.requires.form (omega arith)

pub returns : goal.returns
returns c =
    rw (c.bytes_in.ensures, c.bytes_in-2.ensures)
    (whole_by_sums c.args.header.now c.args.extent.now c.args.object c.requires.form.layout c.requires.within)
