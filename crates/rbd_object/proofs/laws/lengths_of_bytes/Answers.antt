use Rattle.rbd_parts.proofs.ContentsLemmas.{length-window, length_overwritten, length-zeroed}
use Rattle.rbd_object.proofs.laws.lengths_of_bytes.Goals as goal

pub returns-clause-read : goal.returns-clause-read
returns-clause-read c = length-window

pub returns-clause-write : goal.returns-clause-write
returns-clause-write c = length_overwritten

pub returns-clause-zero : goal.returns-clause-zero
returns-clause-zero c = length-zeroed
