use Rattle.rbd_script.proofs.CommandRead.{spelled_is_read}
use Rattle.rbd_script.proofs.CommandSaid.{command_said}
use Rattle.rbd_script.proofs.laws.commands_are_spelled.Goals as goal

pub returns-clause-read : goal.returns-clause-read
returns-clause-read c = spelled_is_read

pub returns-clause-spelled : goal.returns-clause-spelled
returns-clause-spelled c = command_said
