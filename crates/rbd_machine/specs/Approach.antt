-- Where a change is on its way to its look under the lock.
use Rattle.std.specs.Prelude.{◌≡◌, ℕ, List, Option, Some, None}
use Rattle.rbd_kinds.specs.declared.answer.Answer.TheVariants as answer
use Rattle.rbd_kinds.specs.declared.directory_op.DirectoryOp.TheVariants as directory
use Rattle.rbd_kinds.specs.declared.header.HeaderView.{HeaderView}
use Rattle.rbd_kinds.specs.declared.header_op.HeaderOp.TheVariants as header
use Rattle.rbd_kinds.specs.declared.machine.Fed.{Fed}
use Rattle.rbd_kinds.specs.declared.machine.Fed.TheVariants as fed
use Rattle.rbd_kinds.specs.declared.operation.Op.TheVariants as op
use Rattle.rbd_commands.specs.declared.refusal.Refusal.{Refusal}
use Rattle.rbd_machine.specs.Answers.{CanGive}
use Rattle.rbd_machine.specs.Plan.{IsLive, Plan}
use Rattle.rbd_machine.specs.Steps.{IsGoing, refused, holding, joining_between, looking_between, nothing_between, under_lock, way_between}
use Rattle.rbd_machine.specs.declared.approach.Approach.{Approach}
use Rattle.rbd_machine.specs.declared.approach.Reached.{Reached}
use Rattle.rbd_machine.specs.declared.approach.Reached.TheVariants as reached
use Rattle.rbd_machine.specs.declared.approach.Stage.{Stage}
use Rattle.rbd_machine.specs.declared.approach.Stage.TheVariants as stage
use Rattle.rbd_machine.specs.declared.progress.Progress.{Progress}
use Rattle.rbd_machine.specs.declared.progress.Progress.TheVariants as progress

-- what is left of the way to the look under the lock, by what comes between its two looks, and what
-- the change does then
abbrev pub rest_from : Stage → Approach → (HeaderView → Option Refusal) → (between : ℕ → Plan → Plan)
    → (act : ℕ → HeaderView → Plan) → Plan
rest_from stage.Finding a refuses between act = way_between a.site a.name a.sharing refuses between act
rest_from (stage.Joining image) a refuses between act = joining_between a.site a.sharing refuses between act image
rest_from (stage.Looking image) a refuses between act = looking_between a.site refuses between act image
rest_from (stage.Holding image) a refuses between act = holding a.site refuses act image
rest_from (stage.UnderLock image) a refuses between act = under_lock a.site refuses act image

abbrev pub rest_between : Approach → (HeaderView → Option Refusal) → (between : ℕ → Plan → Plan)
    → (act : ℕ → HeaderView → Plan) → Plan
rest_between a refuses between act = rest_from a.stage a refuses between act

-- the same, where nothing comes between
abbrev pub rest_of : Approach → (HeaderView → Option Refusal) → (act : ℕ → HeaderView → Plan) → Plan
rest_of a refuses act = rest_between a refuses nothing_between act

-- the change wants an operation at this stage
abbrev pub IsAskingAt : Stage → Type 0
IsAskingAt (stage.Joining image) = ⊥
IsAskingAt (stage.Holding image) = ⊥
IsAskingAt _ = Unit {0}

-- What the change may be fed: an answer that its operation can give, or that it may go on.
abbrev pub CanBeFedAt : Stage → (name : List ℕ) → Fed → Type 0
CanBeFedAt stage.Finding name (fed.Answer a) = CanGive (op.Directory (directory.Find name)) a
CanBeFedAt (stage.Joining image) name fed.Passed = Unit {0}
CanBeFedAt (stage.Looking image) name (fed.Answer a) = CanGive (op.Header image header.Get) a
CanBeFedAt (stage.Holding image) name fed.Passed = Unit {0}
CanBeFedAt (stage.UnderLock image) name (fed.Answer a) = CanGive (op.Header image header.Get) a
CanBeFedAt _ name f = ⊥

-- The change is at its look under the lock, and was told a header that refuses nothing.
pub record IsAllowedUnderLock (refuses : HeaderView → Option Refusal) (act : ℕ → HeaderView → Plan) (image : ℕ)
    (h : HeaderView)
    (to : Plan) (old : Approach) : Type 0 where
  pub stage : old.stage ≡ stage.UnderLock image
  pub may : refuses h ≡ None
  pub acts : to ≡ act image h

abbrev pub OwnedBy : (HeaderView → Option Refusal) → (act : ℕ → HeaderView → Plan) → (image : ℕ) → Fed → (to : Plan)
    → (old : Approach) → Type 0
OwnedBy refuses act image (fed.Answer (answer.Header h)) to old = IsAllowedUnderLock refuses act image h to old
OwnedBy refuses act image _ to old = ⊥

-- It is behind its first look: what comes between is next, and then the rest of its way.
pub record IsBetween (between : ℕ → Plan → Plan) (image : ℕ) (to left : Plan) : Type 0 where
  pub live : IsLive left
  pub is : between image left ≡ to

-- The change went on, or is behind its first look, or may do what it does, or has ended.
abbrev pub Reaches : (HeaderView → Option Refusal) → (between : ℕ → Plan → Plan) → (act : ℕ → HeaderView → Plan) → Fed
    → (to : Plan) → Reached → (old new : Approach) → Type 0
Reaches refuses between act f to reached.More old new = IsGoing to (rest_between new refuses between act)
Reaches refuses between act f to (reached.FirstLook image) old new =
    IsBetween between image to (rest_between new refuses between act)
Reaches refuses between act f to (reached.UnderLock image) old new = OwnedBy refuses act image f to old
Reaches refuses between act f to (reached.Refused r) old new = to ≡ refused r

-- The same, where nothing comes between.
abbrev pub Approaches : (HeaderView → Option Refusal) → (act : ℕ → HeaderView → Plan) → Fed → (to : Plan) → Progress ℕ
    → (old new : Approach) → Type 0
Approaches refuses act f to progress.More old new = IsGoing to (rest_of new refuses act)
Approaches refuses act f to (progress.Refused r) old new = to ≡ refused r
Approaches refuses act f to (progress.Ended image) old new = OwnedBy refuses act image f to old

-- the image, where the change is at its look under the lock
abbrev pub under_lock_at : Stage → Option ℕ
under_lock_at (stage.UnderLock image) = Some image
under_lock_at _ = None
