-- Ways to a lock go to the lock's label alone.
use Rattle.std.proofs.Common.{ℕ, Bool, true, false, cond}
use Rattle.rbd_kinds.specs.declared.answer.Answer.{Answer}
use Rattle.rbd_kinds.specs.declared.answer.Answer.TheVariants as answer
use Rattle.rbd_kinds.specs.declared.id.Instance.{Instance}
use Rattle.rbd_kinds.specs.declared.id.SiteId.{SiteId}
use Rattle.rbd_machine.specs.Label.{Label}
use Rattle.rbd_machine.specs.Label as label
use Rattle.rbd_machine.specs.Plan.{Plan, IsAsking, IsClosed}
use Rattle.rbd_machine.proofs.Closed.{closed_not_there, closed_on_done}
use Rattle.rbd_lock.specs.Acquire.{acquire, again, asking, breaking, fencing, taking, on_taken, on_watchers, on_broken}
use Rattle.rbd_lock.specs.Steps.{is_instance_among}

module _ (labels : Label → Plan) (lock_asks : IsAsking (labels label.Lock)) (site : SiteId) (image : ℕ) where
  closed_on_broken : (a : Answer) → IsClosed labels (on_broken a)
  closed_on_broken answer.Done = lock_asks
  closed_on_broken answer.Changed = lock_asks
  closed_on_broken a = closed_not_there labels a

  closed_by_look : (owner : Instance) (b : Bool) → IsClosed labels (cond b (asking site image) (fencing site image owner))
  closed_by_look owner true = closed_on_done labels again lock_asks
  closed_by_look owner false = closed_on_done labels (breaking site image owner) closed_on_broken

  closed_on_watchers : (owner : Instance) (a : Answer) → IsClosed labels (on_watchers site image owner a)
  closed_on_watchers owner (answer.Instances watchers) = closed_by_look owner (is_instance_among watchers owner)
  closed_on_watchers owner a = closed_not_there labels a

  closed_taking : (next : Plan) → IsClosed labels next → (a : Answer) → IsClosed labels (on_taken site image next a)
  closed_taking next closed answer.Done = closed
  closed_taking next closed (answer.Held owner) = closed_on_watchers owner
  closed_taking next closed a = closed_not_there labels a

  pub closed_acquire : (watched : Bool) (next : Plan) → IsClosed labels next → IsClosed labels (acquire site image watched next)
  closed_acquire true next closed = closed_taking next closed
  closed_acquire false next closed = closed_on_done labels (taking site image next) (closed_taking next closed)
