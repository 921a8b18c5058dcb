use Rattle.rbd_stands.proofs.Nothing.{nothing_stands}
use Rattle.rbd_stands.proofs.laws.no_records_stand.Goals as goal

pub returns : goal.returns
returns c = nothing_stands
