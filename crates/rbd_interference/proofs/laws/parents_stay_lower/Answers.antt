use Rattle.rbd_interference.proofs.Ranked.{none_ranked, ranked_behind, ranked_expired, ranked_trimmed}
use Rattle.rbd_interference.proofs.laws.parents_stay_lower.Goals as goal

pub returns-clause-first : goal.returns-clause-first
returns-clause-first c = none_ranked

pub returns-clause-operation : goal.returns-clause-operation
returns-clause-operation c = λ site r f k you o stands ranked permits. ranked_behind site r f k you stands ranked o permits

pub returns-clause-trim : goal.returns-clause-trim
returns-clause-trim c = ranked_trimmed

pub returns-clause-expiry : goal.returns-clause-expiry
returns-clause-expiry c = ranked_expired
