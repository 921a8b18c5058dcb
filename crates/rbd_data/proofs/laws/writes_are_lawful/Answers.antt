use Rattle.rbd_machine.proofs.AtLeast.{jump_lawful}
use Rattle.rbd_data.proofs.Lawful.{nothing_at, lawful_write_plan}
use Rattle.rbd_data.proofs.laws.writes_are_lawful.Goals as goal

pub returns : goal.returns
returns c = λ home command. record { known_at = nothing_at; plan = lawful_write_plan nothing_at home command; labels = jump_lawful nothing_at }
