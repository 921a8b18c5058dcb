use Rattle.rbd_data.proofs.Bounded.{bounded_pass, bounded_read}
use Rattle.rbd_data.proofs.laws.reads_are_bounded.Goals as goal

pub returns-clause-pass : goal.returns-clause-pass
returns-clause-pass c = bounded_pass

pub returns-clause-all : goal.returns-clause-all
returns-clause-all c = bounded_read
