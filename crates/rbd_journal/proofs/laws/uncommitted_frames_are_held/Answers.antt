use Rattle.rbd_journal.proofs.Readings.{uncommitted_held}
use Rattle.rbd_journal.proofs.laws.uncommitted_frames_are_held.Goals as goal

pub returns : goal.returns
returns c = uncommitted_held
