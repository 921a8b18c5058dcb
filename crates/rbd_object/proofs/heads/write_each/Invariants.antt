use Rattle.rbd_object.proofs.EachLemmas.{IsWritingParts}
use Rattle.rbd_object.proofs.heads.write_each.Given as goal

-- once the parts that are left are written, all are
abbrev pub invariant-loop-part : goal.invariant-loop-part
invariant-loop-part l = IsWritingParts l.parts l.bytes l.fn.sheaves l.fn.head l.part-index l.rest l.sheaves l.head
