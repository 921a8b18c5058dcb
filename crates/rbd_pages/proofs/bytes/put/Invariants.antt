use Rattle.rbd_pages.specs.Sheaves.{pages_in}
use Rattle.std.proofs.Common.{length}
use Rattle.rbd_pages.proofs.WritingLemmas.{IsWriting}
use Rattle.rbd_pages.proofs.bytes.put.Given as goal

-- once the rest is written, all is
abbrev pub invariant-loop-rest : goal.invariant-loop-rest
invariant-loop-rest l = IsWriting (pages_in l.sheaves l.list) l.at l.bytes l.initial.arena l.next l.rest l.arena

abbrev pub decreases-loop-rest : goal.decreases-loop-rest
decreases-loop-rest l = length l.rest
