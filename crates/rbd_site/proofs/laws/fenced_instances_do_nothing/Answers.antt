use Rattle.rbd_site.proofs.FenceLemmas.{refused_is_fenced}
use Rattle.rbd_site.proofs.laws.fenced_instances_do_nothing.Goals as goal

pub returns-clause-others : goal.returns-clause-others
returns-clause-others c = refused_is_fenced
