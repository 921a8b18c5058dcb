use Rattle.rbd_journal.proofs.Readings.{reads_committed, reads_needed}
use Rattle.rbd_journal.proofs.laws.reads_after_a_trim.Goals as goal

pub returns-clause-committed : goal.returns-clause-committed
returns-clause-committed c = reads_committed

pub returns-clause-needed : goal.returns-clause-needed
returns-clause-needed c = reads_needed
