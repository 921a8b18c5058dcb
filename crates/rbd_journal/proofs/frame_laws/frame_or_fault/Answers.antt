use Rattle.rbd_journal.proofs.Told.{no_fault}
use Rattle.rbd_journal.proofs.FramesSound.{frame_or_fault}
use Rattle.rbd_journal.proofs.frame_laws.frame_or_fault.Goals as goal

pub returns-clause-frame : goal.returns-clause-frame
returns-clause-frame c = no_fault

pub returns-clause-fault : goal.returns-clause-fault
returns-clause-fault c = frame_or_fault
