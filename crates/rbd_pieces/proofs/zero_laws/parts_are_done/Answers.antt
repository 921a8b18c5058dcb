use Rattle.rbd_pieces.proofs.Walked.{full_did, size_did, zero_did}
use Rattle.rbd_pieces.proofs.zero_laws.parts_are_done.Goals as goal

pub returns-clause-zero : goal.returns-clause-zero
returns-clause-zero c = zero_did

pub returns-clause-full : goal.returns-clause-full
returns-clause-full c = full_did

pub returns-clause-size : goal.returns-clause-size
returns-clause-size c = size_did
