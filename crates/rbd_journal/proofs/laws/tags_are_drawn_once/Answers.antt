use Rattle.rbd_journal.proofs.Drawn.{drawn_new, drawn_once}
use Rattle.rbd_journal.proofs.laws.tags_are_drawn_once.Goals as goal

pub returns-clause-new : goal.returns-clause-new
returns-clause-new c = drawn_new

pub returns-clause-once : goal.returns-clause-once
returns-clause-once c = drawn_once
