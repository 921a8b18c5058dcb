use Rattle.std.proofs.Common.{arith}
use Rattle.rbd_text.proofs.Spoken.{spoken_more}
use Rattle.rbd_text.proofs.speakers.Speakers.of.Goals as goal

pub loop-line-preserved : goal.loop-line-preserved
loop-line-preserved c =
    let l = c.loop-line in
    spoken_more c.args.lines.now l.line-index c.line-item.result l.speakers c.read.new.self (omega arith) c.line-item.is l.invariant c.in_ok-read.ensures
