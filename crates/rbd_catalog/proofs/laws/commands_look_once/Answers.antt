use Rattle.rbd_catalog.proofs.Looks.{looks_once, pieces_are_past}
use Rattle.rbd_catalog.proofs.laws.commands_look_once.Goals as goal

pub returns-clause-walk : goal.returns-clause-walk
returns-clause-walk c = looks_once

pub returns-clause-piece : goal.returns-clause-piece
returns-clause-piece c = pieces_are_past
