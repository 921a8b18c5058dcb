use Rattle.rbd_site.proofs.GenerationLemmas.{looked_at}
use Rattle.rbd_site.proofs.laws.looks_change_nothing.Goals as goal

pub returns : goal.returns
returns c = looked_at
