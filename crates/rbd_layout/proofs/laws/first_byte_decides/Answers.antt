use Rattle.rbd_layout.proofs.Places.{first_below}
use Rattle.rbd_layout.proofs.Derived.{first_decides, counted_begin}
use Rattle.rbd_layout.proofs.laws.first_byte_decides.Goals as goal

pub returns-clause-inside : goal.returns-clause-inside
returns-clause-inside c = first_decides

pub returns-clause-least : goal.returns-clause-least
returns-clause-least c = first_below

pub returns-clause-counted : goal.returns-clause-counted
returns-clause-counted c = counted_begin
