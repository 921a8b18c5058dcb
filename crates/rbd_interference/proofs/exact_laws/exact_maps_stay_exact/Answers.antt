use Rattle.rbd_interference.specs.Exact.{IsOwed}
use Rattle.rbd_interference.proofs.ExactlyKept.{exact_expired, exact_stays, exact_trimmed, none_exact}
use Rattle.rbd_interference.proofs.exact_laws.exact_maps_stay_exact.Goals as goal

pub returns-clause-first : goal.returns-clause-first
returns-clause-first c = λ site debts. none_exact (IsOwed debts site)

pub returns-clause-operation : goal.returns-clause-operation
returns-clause-operation c = λ site r f k me o most debts later stands form mapped t permits free goes exact.
    exact_stays site r f k me o most (IsOwed debts site) (IsOwed later site) stands form mapped t permits free goes exact

pub returns-clause-trim : goal.returns-clause-trim
returns-clause-trim c = λ site r image number debts exact. exact_trimmed r image number (IsOwed debts site) exact

pub returns-clause-expiry : goal.returns-clause-expiry
returns-clause-expiry c = λ site r image i debts exact. exact_expired r image i (IsOwed debts site) exact
