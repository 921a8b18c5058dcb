use Rattle.std.proofs.Common.{◌∙◌}
use Rattle.rbd_journal.proofs.Newest.{bears_is}
use Rattle.rbd_journal.proofs.span.newest_bears.Goals as goal

pub returns-in-Some : goal.returns-in-Some
returns-in-Some c = c.is_same.ensures ∙ bears_is c.args.tag c.args.spans.now c.in-Some.span.now c.in-Some.ensures.value
