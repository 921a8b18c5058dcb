use Rattle.rbd_layout.proofs.Places.{byte_of_place, offset_within, number_bounded}
use Rattle.rbd_layout.proofs.laws.place_of_a_byte.Goals as goal

pub returns-clause-byte : goal.returns-clause-byte
returns-clause-byte c = byte_of_place

pub returns-clause-offset : goal.returns-clause-offset
returns-clause-offset c = offset_within

pub returns-clause-object : goal.returns-clause-object
returns-clause-object c = number_bounded
