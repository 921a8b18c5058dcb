use Rattle.rbd_journal.proofs.Newest.{end_is}
use Rattle.rbd_journal.proofs.span.end_of.Goals as goal

pub returns-in-Some : goal.returns-in-Some
returns-in-Some c = end_is c.args.spans.now c.in-Some.span.now c.in-Some.ensures.value
