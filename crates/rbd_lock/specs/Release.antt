-- How a lock is let go.
use Rattle.std.specs.Prelude.{◌≡◌, ℕ, List, [], ◌∷◌, Option, Some, None}
use Rattle.rbd_kinds.specs.declared.answer.Answer.{Answer}
use Rattle.rbd_kinds.specs.declared.answer.Answer.TheVariants as answer
use Rattle.rbd_kinds.specs.declared.id.SiteId.{SiteId}
use Rattle.rbd_kinds.specs.declared.operation.Op.{Op}
use Rattle.rbd_kinds.specs.declared.reply.Reply.TheVariants as reply
use Rattle.rbd_machine.specs.Path.{Answered}
use Rattle.rbd_machine.specs.Plan.{Plan, Return}
use Rattle.rbd_machine.specs.Steps.{own}
use Rattle.rbd_lock.specs.Steps.{lock_drop, released_lock}
use Rattle.rbd_lock.specs.declared.release.Release.{Release}
use Rattle.rbd_lock.specs.declared.release.Stage.{Stage}
use Rattle.rbd_lock.specs.declared.release.Stage.TheVariants as stage

-- the watchers are told, and whatever that is answered is passed over
abbrev pub telling : SiteId → (image : ℕ) → Plan
telling site image = own site (released_lock image) (λ a. Return reply.Done)

-- only a lock that was dropped is told of
abbrev pub on_dropped : SiteId → (image : ℕ) → Answer → Plan
on_dropped site image answer.Done = telling site image
on_dropped site image a = Return reply.Done

abbrev pub release : SiteId → (image : ℕ) → Plan
release site image = own site (lock_drop image) (on_dropped site image)

-- ---- where one begins, and what is left of one

abbrev pub begun_release : SiteId → (image : ℕ) → Release
begun_release site image = record { site = site; image = image; stage = stage.Dropping }

abbrev pub rest_at : Stage → SiteId → (image : ℕ) → Plan
rest_at stage.Dropping site image = release site image
rest_at stage.Telling site image = telling site image

abbrev pub rest_of_release : Release → Plan
rest_of_release r = rest_at r.stage r.site r.image

-- the operation that a release wants at a stage
abbrev pub release_op_at : Stage → (image : ℕ) → Op
release_op_at stage.Dropping image = lock_drop image
release_op_at stage.Telling image = released_lock image

abbrev pub release_op : Release → Op
release_op r = release_op_at r.stage r.image

-- what is left of a release after an answer, and nothing where it has ended
abbrev pub release_behind : Stage → SiteId → (image : ℕ) → Answer → Option Release
release_behind stage.Dropping site image answer.Done =
    Some (record { site = site; image = image; stage = stage.Telling })
release_behind at site image a = None

abbrev pub release_after : Release → Answer → Option Release
release_after r a = release_behind r.stage r.site r.image a

-- ---- what it did

-- the watchers were told of a drop that was done, and of no other
abbrev pub TellsOfDrop : SiteId → (image : ℕ) → (dropped : Answer) → (behind : List Answered) → Type 0
TellsOfDrop site image answer.Done behind =
    (a : Answer) × (behind ≡ record { site = site; op = released_lock image; answer = a } ∷ [])
TellsOfDrop site image dropped behind = behind ≡ []

-- The lock was dropped, and its watchers were told where that was done.
pub record LetsGo (site : SiteId) (image : ℕ) (steps : List Answered) : Type 0 where
  pub dropped : Answer
  pub behind : List Answered
  pub are : steps ≡ record { site = site; op = lock_drop image; answer = dropped } ∷ behind
  pub tells : TellsOfDrop site image dropped behind
