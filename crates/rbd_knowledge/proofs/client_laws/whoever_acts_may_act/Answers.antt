use Rattle.rbd_knowledge.proofs.Acts.{acts_beside_others, acts_beside_own}
use Rattle.rbd_knowledge.proofs.Ways.{way_acts}
use Rattle.rbd_knowledge.proofs.client_laws.whoever_acts_may_act.Goals as goal

pub returns-clause-own : goal.returns-clause-own
returns-clause-own g c = λ client knows slot other site o r me you sound all differ is. acts_beside_own g.R.Machine.stands client knows sound all r me you slot other site o differ is

pub returns-clause-others : goal.returns-clause-others
returns-clause-others g c = λ client knows slot site o r me you j sound all is t differ theirs.
    acts_beside_others g.R.Machine.stands client knows sound all r me you j site t differ theirs slot o is

pub returns-clause-way : goal.returns-clause-way
returns-clause-way g c = way_acts
