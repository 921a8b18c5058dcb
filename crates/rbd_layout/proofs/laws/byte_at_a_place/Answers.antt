use Rattle.rbd_layout.proofs.Places.{object_of_byte, offset_of_byte}
use Rattle.rbd_layout.proofs.laws.byte_at_a_place.Goals as goal

pub returns-clause-object : goal.returns-clause-object
returns-clause-object c = object_of_byte

pub returns-clause-offset : goal.returns-clause-offset
returns-clause-offset c = offset_of_byte
