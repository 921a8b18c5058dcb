use Rattle.rbd_interference.proofs.Together.{alone_knows, nobody_knows}
use Rattle.rbd_interference.proofs.laws.nobody_relies_on_a_lock_that_ends.Goals as goal

pub returns-clause-broken : goal.returns-clause-broken
returns-clause-broken c = λ site r me owner k image t permits. t.fenced owner permits

pub returns-clause-dropped : goal.returns-clause-dropped
returns-clause-dropped c = λ site r me you k j image free lock permits may. nobody_knows site r me you k j image free permits (may lock)

pub returns-clause-removed : goal.returns-clause-removed
returns-clause-removed c = λ site r me you k j image free beside permits. alone_knows site r me you k j image _ free beside permits
