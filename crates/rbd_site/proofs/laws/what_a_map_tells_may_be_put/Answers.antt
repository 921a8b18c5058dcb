use Rattle.rbd_site.proofs.StepLemmas.{told_map}
use Rattle.rbd_site.proofs.laws.what_a_map_tells_may_be_put.Goals as goal

pub returns : goal.returns
returns c = told_map
