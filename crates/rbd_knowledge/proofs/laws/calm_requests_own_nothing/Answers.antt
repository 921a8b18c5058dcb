use Rattle.std.proofs.Common.{refl}
use Rattle.rbd_knowledge.proofs.Unowned.{acted_beside_calm, calm_acts, calm_beside, calm_fed, calm_stays}
use Rattle.rbd_knowledge.proofs.laws.calm_requests_own_nothing.Goals as goal

pub returns-clause-first : goal.returns-clause-first
returns-clause-first c = record { owns = λ site image. refl; gone = λ site image. refl }

pub returns-clause-fed : goal.returns-clause-fed
returns-clause-fed c = λ labels known_at k plan f calm lawful can none. calm_fed known_at k plan f calm.plan lawful can none

pub returns-clause-stays : goal.returns-clause-stays
returns-clause-stays c = λ labels plan f calm can. record { plan = calm_stays labels calm.labels plan f calm.plan can; labels = calm.labels }

pub returns-clause-beside : goal.returns-clause-beside
returns-clause-beside c = calm_beside

pub returns-clause-acts : goal.returns-clause-acts
returns-clause-acts c = calm_acts

pub returns-clause-acted_beside : goal.returns-clause-acted_beside
returns-clause-acted_beside c = acted_beside_calm
