use Rattle.rbd_stands.proofs.DirectorySteps.{name_stands, name_untouched, name_drawn}
use Rattle.rbd_stands.proofs.laws.adding_a_name.Goals as goal

pub returns-clause-stands : goal.returns-clause-stands
returns-clause-stands c = name_stands

pub returns-clause-untouched : goal.returns-clause-untouched
returns-clause-untouched c = name_untouched

pub returns-clause-drawn : goal.returns-clause-drawn
returns-clause-drawn c = name_drawn
