use Rattle.rbd_journal.proofs.Readings.{reads_here, reads_elsewhere}
use Rattle.rbd_journal.proofs.laws.reads_after_an_append.Goals as goal

pub returns-clause-here : goal.returns-clause-here
returns-clause-here c = reads_here

pub returns-clause-elsewhere : goal.returns-clause-elsewhere
returns-clause-elsewhere c = reads_elsewhere
