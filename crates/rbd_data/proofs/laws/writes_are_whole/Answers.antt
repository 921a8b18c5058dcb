use Rattle.rbd_data.proofs.Whole.{write_is_whole}
use Rattle.rbd_data.proofs.laws.writes_are_whole.Goals as goal

pub returns : goal.returns
returns c = write_is_whole
