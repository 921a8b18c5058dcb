use Rattle.rbd_layout.proofs.Derived.{byte_in_object}
use Rattle.rbd_layout.proofs.laws.bytes_of_an_object.Goals as goal

pub returns : goal.returns
returns c = record { bytes = byte_in_object }
