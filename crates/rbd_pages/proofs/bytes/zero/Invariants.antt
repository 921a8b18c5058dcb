use Rattle.rbd_pages.specs.Sheaves.{pages_in}
use Rattle.rbd_pages.proofs.WritingLemmas.{IsZeroing}
use Rattle.rbd_pages.proofs.bytes.zero.Given as goal

-- once the rest is zero, all is
abbrev pub invariant-loop-left : goal.invariant-loop-left
invariant-loop-left l = IsZeroing (pages_in l.sheaves l.list) l.at l.len l.initial.arena l.next l.left l.arena

abbrev pub decreases-loop-left : goal.decreases-loop-left
decreases-loop-left l = l.left
