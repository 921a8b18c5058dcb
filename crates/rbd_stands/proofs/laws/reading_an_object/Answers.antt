use Rattle.rbd_stands.proofs.Telling.{bytes_told, absence_told}
use Rattle.rbd_stands.proofs.laws.reading_an_object.Goals as goal

pub returns-clause-bytes : goal.returns-clause-bytes
returns-clause-bytes c = bytes_told

pub returns-clause-absent : goal.returns-clause-absent
returns-clause-absent c = absence_told
