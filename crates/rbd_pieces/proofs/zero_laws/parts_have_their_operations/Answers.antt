use Rattle.rbd_pieces.proofs.Fixed.{full_so, zero_so, zeros_so}
use Rattle.rbd_pieces.proofs.zero_laws.parts_have_their_operations.Goals as goal

pub returns-clause-zero : goal.returns-clause-zero
returns-clause-zero c = zero_so

pub returns-clause-full : goal.returns-clause-full
returns-clause-full c = full_so

pub returns-clause-zeros : goal.returns-clause-zeros
returns-clause-zeros c = zeros_so
