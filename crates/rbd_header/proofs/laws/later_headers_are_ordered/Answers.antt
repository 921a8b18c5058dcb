use Rattle.rbd_header.proofs.Later.{later_itself, later_onward}
use Rattle.rbd_header.proofs.laws.later_headers_are_ordered.Goals as goal

pub returns-clause-itself : goal.returns-clause-itself
returns-clause-itself c = later_itself

pub returns-clause-onward : goal.returns-clause-onward
returns-clause-onward c = later_onward
