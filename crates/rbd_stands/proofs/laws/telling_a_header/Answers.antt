use Rattle.rbd_stands.proofs.Telling.{header_told, absence_of_header}
use Rattle.rbd_stands.proofs.laws.telling_a_header.Goals as goal

pub returns-clause-told : goal.returns-clause-told
returns-clause-told c = header_told

pub returns-clause-missing : goal.returns-clause-missing
returns-clause-missing c = absence_of_header
