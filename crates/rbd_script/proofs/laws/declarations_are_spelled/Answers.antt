use Rattle.rbd_script.proofs.EventSpelling.{declaration_read, declaration_said}
use Rattle.rbd_script.proofs.laws.declarations_are_spelled.Goals as goal

pub returns-clause-read : goal.returns-clause-read
returns-clause-read c = declaration_read

pub returns-clause-spelled : goal.returns-clause-spelled
returns-clause-spelled c = declaration_said
