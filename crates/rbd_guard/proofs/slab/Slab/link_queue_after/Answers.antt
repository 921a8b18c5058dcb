use Rattle.rbd_guard.proofs.Chained.{same_free}
use Rattle.rbd_guard.proofs.slab.Slab.link_queue_after.Goals as goal

pub invariant_of-self : goal.invariant_of-self
invariant_of-self c =
    same_free c.self.inside.places.items c.self.inside.free c.self.inside.count c.self.invariant c.link_queue_after.new.places.items c.link_queue_after.ensures.free
