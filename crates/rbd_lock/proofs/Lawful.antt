-- The way to a lock and a release do only what they may.
use Rattle.std.proofs.Common.{ℕ, Bool, true, false, cond, sym, subst}
use Rattle.rbd_kinds.specs.declared.answer.Answer.{Answer}
use Rattle.rbd_kinds.specs.declared.answer.Answer.TheVariants as answer
use Rattle.rbd_kinds.specs.declared.id.Instance.{Instance}
use Rattle.rbd_kinds.specs.declared.id.SiteId.{SiteId}
use Rattle.rbd_machine.specs.AtLeast.{KnowsAtLeast}
use Rattle.rbd_machine.specs.Knowledge.{Knowledge, learned, with_fence, without_fence}
use Rattle.rbd_machine.specs.Label.{Label}
use Rattle.rbd_machine.specs.Label as label
use Rattle.rbd_machine.specs.Lawful.{CanTell, IsLawful}
use Rattle.rbd_machine.specs.Permits.{HoldsUnlooked}
use Rattle.rbd_machine.specs.Plan.{Plan}
use Rattle.rbd_machine.proofs.Fences.{fence_is_known, fence_is_forgotten}
use Rattle.rbd_machine.proofs.Lawful.{lawful_not_there, lawful_on_done}
use Rattle.rbd_lock.specs.Acquire.{acquire, again, asking, breaking, fencing, looking, taking, on_broken, on_taken, on_watchers}
use Rattle.rbd_lock.specs.Release.{release, on_dropped}
use Rattle.rbd_lock.specs.Steps.{block_add, lock_break, lock_take, watchers_get, is_instance_among}

module _ (at : Label → Knowledge) (site : SiteId) (image : ℕ) (k : Knowledge) (at_lock : KnowsAtLeast k (at label.Lock)) where
  -- The fence is forgotten with the break that it was for, so that at the lock the same is known.
  lawful_breaking : (owner : Instance) → IsLawful at (with_fence site owner k) (breaking site image owner)
  lawful_breaking owner = (fence_is_known k site owner, on)
    where
      once_more : IsLawful at (without_fence site owner (with_fence site owner k)) again
      once_more = (tt, subst (λ known. KnowsAtLeast known (at label.Lock)) (sym (fence_is_forgotten k site owner)) at_lock)

      on : (a : Answer) → CanTell (with_fence site owner k) site (lock_break image owner) a → IsLawful at (learned (with_fence site owner k) site (lock_break image owner) a) (on_broken a)
      on answer.Done can = once_more
      on answer.Changed can = once_more
      on a can = lawful_not_there at (with_fence site owner k) a

  lawful_fencing : (owner : Instance) → IsLawful at k (fencing site image owner)
  lawful_fencing owner = (tt, λ a can. lawful_on_done at (learned k site (block_add owner)) (breaking site image owner) (lawful_breaking owner) a)

  lawful_asking : IsLawful at k (asking site image)
  lawful_asking = (tt, λ a can. lawful_on_done at (λ answered. k) again (tt, at_lock) a)

  lawful_by_look : (owner : Instance) (b : Bool) → IsLawful at k (cond b (asking site image) (fencing site image owner))
  lawful_by_look owner true = lawful_asking
  lawful_by_look owner false = lawful_fencing owner

  lawful_looking : (owner : Instance) → IsLawful at k (looking site image owner)
  lawful_looking owner = (tt, on)
    where
      on : (a : Answer) → CanTell k site (watchers_get image) a → IsLawful at k (on_watchers site image owner a)
      on (answer.Instances watchers) can = lawful_by_look owner (is_instance_among watchers owner)
      on a can = lawful_not_there at k a

  pub lawful_taking : (next : Plan) → IsLawful at k next → IsLawful at k (taking site image next)
  lawful_taking next lawful = (tt, on)
    where
      on : (a : Answer) → CanTell k site (lock_take image) a → IsLawful at k (on_taken site image next a)
      on answer.Done can = lawful
      on (answer.Held owner) can = lawful_looking owner
      on a can = lawful_not_there at k a

  pub lawful_acquire : (watched : Bool) (next : Plan) → IsLawful at k next → IsLawful at k (acquire site image watched next)
  lawful_acquire true next lawful = lawful_taking next lawful
  lawful_acquire false next lawful = (tt, λ a can. lawful_on_done at (λ answered. k) (taking site image next) (lawful_taking next lawful) a)

-- ---- releases

pub lawful_release : (at : Label → Knowledge) (site : SiteId) (image : ℕ) (k : Knowledge) → HoldsUnlooked k site image → IsLawful at k (release site image)
lawful_release at site image k holds = (holds, λ a can. on a)
  where
    on : (a : Answer) → IsLawful at k (on_dropped site image a)
    on answer.Done = (tt, λ a can. tt)
    on a = tt
