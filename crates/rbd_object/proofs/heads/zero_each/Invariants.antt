use Rattle.rbd_object.proofs.EachLemmas.{IsZeroingParts}
use Rattle.rbd_object.proofs.heads.zero_each.Given as goal

-- once the parts that are left are zero, all are
abbrev pub invariant-loop-part : goal.invariant-loop-part
invariant-loop-part l = IsZeroingParts l.parts l.fn.sheaves l.fn.head l.part-index l.sheaves l.head
