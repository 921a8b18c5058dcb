use Rattle.rbd_machine.proofs.Lawful.{stays_lawful}
use Rattle.rbd_machine.proofs.laws.lawful_requests_stay_lawful.Goals as goal

pub returns-clause-asks : goal.returns-clause-asks
returns-clause-asks c = λ at k site why op next lawful. lawful.0

pub returns-clause-stays : goal.returns-clause-stays
returns-clause-stays c = stays_lawful
