use Rattle.rbd_interference.proofs.Locks.{lock_is_taken, lock_lasts}
use Rattle.rbd_interference.proofs.laws.locks_last.Goals as goal

pub returns-clause-taken : goal.returns-clause-taken
returns-clause-taken c = lock_is_taken

pub returns-clause-operation : goal.returns-clause-operation
returns-clause-operation c = λ site r me you j image o u locks permits keeps lock. lock_lasts site r me you j image o u locks permits keeps lock

pub returns-clause-trim : goal.returns-clause-trim
returns-clause-trim c = λ r me image other number lock free. let had = lock free in record { header = had.header; there = had.there; owner = had.owner }

pub returns-clause-expiry : goal.returns-clause-expiry
returns-clause-expiry c = λ r me i image other lock free. let had = lock free in record { header = had.header; there = had.there; owner = had.owner }
