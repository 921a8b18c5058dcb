use Rattle.rbd_site.proofs.StepLemmas.{refused}
use Rattle.rbd_site.proofs.laws.other_answers_change_nothing.Goals as goal

pub returns : goal.returns
returns c = refused
