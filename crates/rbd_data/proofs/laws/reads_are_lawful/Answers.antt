use Rattle.rbd_data.proofs.Lawful.{lawful_read}
use Rattle.rbd_data.proofs.laws.reads_are_lawful.Goals as goal

pub returns : goal.returns
returns c = lawful_read
