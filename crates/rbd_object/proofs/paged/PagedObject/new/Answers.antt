use Rattle.rbd_object.proofs.PagedLemmas.{paged_blank}
use Rattle.rbd_object.proofs.paged.PagedObject.new.Goals as goal

pub invariant_of-result : goal.invariant_of-result
invariant_of-result c = paged_blank _ _ c.new.ensures c.new-2.ensures.items
