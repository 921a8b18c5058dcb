use Rattle.rbd_data.proofs.Passes.{read_shows}
use Rattle.rbd_data.proofs.laws.bytes_are_shown_between_looks.Goals as goal

pub returns : goal.returns
returns c = read_shows
