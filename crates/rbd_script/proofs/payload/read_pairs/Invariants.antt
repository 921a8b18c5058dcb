use Rattle.rbd_script.proofs.PairsRead.{IsReadTo}
use Rattle.rbd_script.proofs.payload.read_pairs.Given as goal

abbrev pub invariant-pairs : goal.invariant-pairs
invariant-pairs l = IsReadTo l.token l.bytes l.i
