use Rattle.rbd_journal.proofs.Sound.{sound_appended, sound_based, sound_committed, sound_drawn, sound_registered, sound_trimmed}
use Rattle.rbd_journal.proofs.laws.soundness_is_kept.Goals as goal

pub returns-clause-based : goal.returns-clause-based
returns-clause-based c = sound_based

pub returns-clause-appended : goal.returns-clause-appended
returns-clause-appended c = sound_appended

pub returns-clause-committed : goal.returns-clause-committed
returns-clause-committed c = sound_committed

pub returns-clause-registered : goal.returns-clause-registered
returns-clause-registered c = sound_registered

pub returns-clause-trimmed : goal.returns-clause-trimmed
returns-clause-trimmed c = sound_trimmed

pub returns-clause-tag_drawn : goal.returns-clause-tag_drawn
returns-clause-tag_drawn c = sound_drawn
