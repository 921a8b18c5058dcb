use Rattle.rbd_site.proofs.GenerationLemmas.{generation_lasts, generation_same, lock_alone}
use Rattle.rbd_site.proofs.laws.changes_raise_the_generation.Goals as goal

pub returns-clause-lasts : goal.returns-clause-lasts
returns-clause-lasts c = generation_lasts

pub returns-clause-same : goal.returns-clause-same
returns-clause-same c = generation_same

pub returns-clause-lock : goal.returns-clause-lock
returns-clause-lock c = lock_alone
