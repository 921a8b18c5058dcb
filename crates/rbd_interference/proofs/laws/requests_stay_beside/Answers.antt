use Rattle.rbd_site.specs.Log.{expired, trimmed}
use Rattle.rbd_interference.proofs.Together.{beside_stays, learned_beside, still_beside, waited_beside}
use Rattle.rbd_interference.proofs.laws.requests_stay_beside.Goals as goal

pub returns-clause-answered : goal.returns-clause-answered
returns-clause-answered c = λ site r k j me you o u beside permits may. learned_beside site r me you k j beside o u permits may

pub returns-clause-waited : goal.returns-clause-waited
returns-clause-waited c = λ site r me you k j w beside. waited_beside site r me you k j beside w

pub returns-clause-others : goal.returns-clause-others
returns-clause-others c = beside_stays

pub returns-clause-trim : goal.returns-clause-trim
returns-clause-trim c = λ site r me you k j image number beside. still_beside site r (trimmed image number r) me you k j (λ other free. free) beside

pub returns-clause-expiry : goal.returns-clause-expiry
returns-clause-expiry c = λ site r me you i k j image beside. still_beside site r (expired image i r) me you k j (λ other free. free) beside
