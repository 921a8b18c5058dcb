-- What is done on the way to a lock, or lets a lock go, changes no image.
use Rattle.std.proofs.Common.{◌≡◌, inl, inr, ℕ, ◌==◌, ◌&&◌, Bool, true, false, cond, List, [], ◌∷◌, refl, ap, ◌∙◌, subst, sym}
use Rattle.std.proofs.Math.Bool.{and-false}
use Rattle.rbd_kinds.specs.declared.answer.Answer.{Answer}
use Rattle.rbd_kinds.specs.declared.answer.Answer.TheVariants as answer
use Rattle.rbd_kinds.specs.declared.id.Instance.{Instance}
use Rattle.rbd_kinds.specs.declared.id.SiteId.{SiteId}
use Rattle.rbd_kinds.specs.declared.machine.Fed.{Fed}
use Rattle.rbd_kinds.specs.declared.machine.Fed.TheVariants as fed
use Rattle.rbd_kinds.specs.declared.operation.Op.{Op}
use Rattle.rbd_kinds.specs.declared.reply.Reply.TheVariants as reply
use Rattle.rbd_machine.specs.Label.{Label}
use Rattle.rbd_machine.specs.Path.{Answered, IsWalk}
use Rattle.rbd_machine.specs.Plan.{Plan, Ask, Await, Note, Return, Goto, past_label}
use Rattle.rbd_lock.specs.Acquire.{acquire, again, asking, breaking, fencing, lock_labels, on_broken, on_taken, on_watchers, taking}
use Rattle.rbd_lock.specs.Steps.{is_instance_among}
use Rattle.rbd_catalog.proofs.PlanSteps.{at_done, at_not_there}
use Rattle.rbd_stands.specs.Owned.{changes_image}
use Rattle.rbd_world.specs.Ways.{AsksNext, IsOfRelease}

-- it asks for no change of an image, whatever it is answered
abbrev LeavesImages : Plan → Type 0
LeavesImages (Ask site why o next) = ((i : ℕ) → changes_image i o ≡ false) × ((a : Answer) → LeavesImages (next a))
LeavesImages (Await w next) = LeavesImages next
LeavesImages (Note site image event next) = LeavesImages next
LeavesImages (Return r) = Unit {0}
LeavesImages (Goto label) = Unit {0}

module _ (site : SiteId) (image : ℕ) where
  no_change : (i : ℕ) → ((i == image) && false) ≡ false
  no_change i = and-false (i == image)

  leaves_asking : LeavesImages (asking site image)
  leaves_asking = (no_change, at_done LeavesImages (λ r. tt) again tt)

  leaves_on_broken : (a : Answer) → LeavesImages (on_broken a)
  leaves_on_broken answer.Done = tt
  leaves_on_broken answer.Changed = tt
  leaves_on_broken a = at_not_there LeavesImages (λ r. tt) a

  leaves_fencing : (owner : Instance) → LeavesImages (fencing site image owner)
  leaves_fencing owner = (λ i. refl, at_done LeavesImages (λ r. tt) (breaking site image owner) (no_change, leaves_on_broken))

  leaves_by_look : (owner : Instance) (b : Bool) → LeavesImages (cond b (asking site image) (fencing site image owner))
  leaves_by_look owner true = leaves_asking
  leaves_by_look owner false = leaves_fencing owner

  leaves_on_watchers : (owner : Instance) (a : Answer) → LeavesImages (on_watchers site image owner a)
  leaves_on_watchers owner (answer.Instances watchers) = leaves_by_look owner (is_instance_among watchers owner)
  leaves_on_watchers owner a = at_not_there LeavesImages (λ r. tt) a

  leaves_on_taken : (a : Answer) → LeavesImages (on_taken site image (Return reply.Done) a)
  leaves_on_taken answer.Done = tt
  leaves_on_taken (answer.Held owner) = (no_change, leaves_on_watchers owner)
  leaves_on_taken a = at_not_there LeavesImages (λ r. tt) a

  leaves_taking : LeavesImages (taking site image (Return reply.Done))
  leaves_taking = (no_change, leaves_on_taken)

  leaves_acquire : (watched : Bool) → LeavesImages (acquire site image watched (Return reply.Done))
  leaves_acquire true = leaves_taking
  leaves_acquire false = (no_change, at_done LeavesImages (λ r. tt) (taking site image (Return reply.Done)) leaves_taking)

-- ---- along a walk

module _ (labels : Label → Plan) (leave : (l : Label) → LeavesImages (labels l)) where
  leaves_settled : (plan : Plan) → LeavesImages plan → LeavesImages (past_label labels plan)
  leaves_settled (Ask site why o next) leaves = leaves
  leaves_settled (Await w next) leaves = leaves
  leaves_settled (Note site image event next) leaves = leaves
  leaves_settled (Return r) leaves = leaves
  leaves_settled (Goto label) leaves = leave label

  leaves_walk : (feds : List Fed) (plan : Plan) (steps : List Answered) (last : Plan) → LeavesImages plan → IsWalk labels plan feds steps last → LeavesImages last
  leaves_walk [] plan steps last leaves (none, same) = subst LeavesImages (sym same) leaves
  leaves_walk (fed.Answer a ∷ feds) (Ask s why o next) steps last leaves (first, walk) = leaves_walk feds (past_label labels (next a)) first.rest last (leaves_settled (next a) (leaves.1 a)) walk
  leaves_walk (fed.Passed ∷ feds) (Await w next) steps last leaves walk = leaves_walk feds (past_label labels next) steps last (leaves_settled next leaves) walk
  leaves_walk (fed.Passed ∷ feds) (Note s image event next) steps last leaves walk = leaves_walk feds (past_label labels next) steps last (leaves_settled next leaves) walk
  leaves_walk (fed.Passed ∷ feds) (Ask s why o next) steps last leaves walk = absurd walk
  leaves_walk (fed.Answer a ∷ feds) (Await w next) steps last leaves walk = absurd walk
  leaves_walk (fed.Answer a ∷ feds) (Note s image event next) steps last leaves walk = absurd walk
  leaves_walk (f ∷ feds) (Return r) steps last leaves walk = absurd walk
  leaves_walk (f ∷ feds) (Goto label) steps last leaves walk = absurd walk

-- ---- what comes next

pub way_leaves_images : (s : SiteId) (o : Op) (steps : List Answered) → AsksNext s o steps → (i : ℕ) → changes_image i o ≡ false
way_leaves_images s o steps asks =
    (leaves_walk (lock_labels s asks.image) (λ l. leaves_taking s asks.image) asks.way.feds _ steps _ (leaves_acquire s asks.image asks.way.watched) asks.way.walk).0

pub release_leaves_images : (o : Op) → IsOfRelease o → (i : ℕ) → changes_image i o ≡ false
release_leaves_images o lets i = elim lets.is [
  | inl drops ↦ ap (changes_image i) drops ∙ and-false (i == lets.image)
  | inr tells ↦ ap (changes_image i) tells ∙ and-false (i == lets.image)
]
