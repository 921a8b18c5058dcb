use Rattle.std.proofs.Common.{arith}
use Rattle.rbd_text.proofs.Gone.{heard_more}
use Rattle.rbd_text.proofs.progress.Progresses.of.Goals as goal

pub loop-entry-preserved : goal.loop-entry-preserved
loop-entry-preserved c =
    let l = c.loop-entry in
    heard_more c.args.a.now c.args.b.now c.args.history.now l.entry-index c.entry-item.result l.all c.hear.new.self (omega arith) c.entry-item.is l.invariant c.in_ok-hear.ensures
