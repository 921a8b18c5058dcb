use Rattle.rbd_parts.proofs.ContentsLemmas.{get_or-window, get_or-overwritten_any, get_or-zeroed}
use Rattle.rbd_object.proofs.laws.bytes_one_by_one.Goals as goal

pub returns-clause-read : goal.returns-clause-read
returns-clause-read c = get_or-window

pub returns-clause-write : goal.returns-clause-write
returns-clause-write c = get_or-overwritten_any

pub returns-clause-zero : goal.returns-clause-zero
returns-clause-zero c = get_or-zeroed
