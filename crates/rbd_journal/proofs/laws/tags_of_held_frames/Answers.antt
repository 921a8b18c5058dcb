use Rattle.rbd_journal.proofs.Readings.{reads_number}
use Rattle.rbd_journal.proofs.Sound.{reads_tagged}
use Rattle.rbd_journal.proofs.Tags.{only_tag}
use Rattle.rbd_journal.proofs.laws.tags_of_held_frames.Goals as goal

pub returns-clause-number : goal.returns-clause-number
returns-clause-number c = reads_number

pub returns-clause-tag : goal.returns-clause-tag
returns-clause-tag c = reads_tagged

pub returns-clause-only : goal.returns-clause-only
returns-clause-only c = λ j k seq s is at from to. only_tag 1 j.spans s k seq is.run at from to
