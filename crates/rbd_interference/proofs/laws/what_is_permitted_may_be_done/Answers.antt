use Rattle.rbd_interference.proofs.Done.{may_do, gives_it}
use Rattle.rbd_interference.proofs.laws.what_is_permitted_may_be_done.Goals as goal

pub returns-clause-may : goal.returns-clause-may
returns-clause-may c = λ site r k me o most form mapped t permits. may_do site r me k most form mapped t o permits

pub returns-clause-gives : goal.returns-clause-gives
returns-clause-gives c = λ site r k me o most form mapped t permits. gives_it site r me k most form mapped t o permits
