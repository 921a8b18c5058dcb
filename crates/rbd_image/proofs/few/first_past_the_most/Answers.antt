use Rattle.std.proofs.Common.{}
use Rattle.rbd_meaning.proofs.Counts.{first_byte}
use Rattle.rbd_image.proofs.few.first_past_the_most.Goals as goal

pub returns : goal.returns
returns c =
    rw (c.from-2.ensures, c.from-3.ensures, c.from-4.ensures, c.from-5.ensures, c.remainder-position.ensures, c.remainder.ensures, c.from.ensures)
    (first_byte c.args.layout.now 1048576)
