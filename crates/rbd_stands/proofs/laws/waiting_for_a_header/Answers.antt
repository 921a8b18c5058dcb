use Rattle.rbd_stands.proofs.EditSteps.{drawn_stays, untouched_stays}
use Rattle.rbd_stands.proofs.laws.waiting_for_a_header.Goals as goal

pub returns-clause-drawn : goal.returns-clause-drawn
returns-clause-drawn c = drawn_stays

pub returns-clause-untouched : goal.returns-clause-untouched
returns-clause-untouched c = untouched_stays
