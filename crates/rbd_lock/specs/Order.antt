-- What each step on the way to a lock stands directly behind.
use Rattle.std.specs.Prelude.{◌≡◌, ℕ, Bool, true, false, List, [], ◌∷◌, ◌++◌}
use Rattle.rbd_kinds.specs.declared.header_op.HeaderOp.{HeaderOp}
use Rattle.rbd_kinds.specs.declared.header_op.HeaderOp.TheVariants as header
use Rattle.rbd_kinds.specs.declared.id.Instance.{Instance}
use Rattle.rbd_kinds.specs.declared.id.SiteId.{SiteId}
use Rattle.rbd_kinds.specs.declared.notice.NoticeKind.{NoticeKind}
use Rattle.rbd_kinds.specs.declared.notice.NoticeKind.TheVariants as notice
use Rattle.rbd_kinds.specs.declared.operation.Op.{Op}
use Rattle.rbd_kinds.specs.declared.operation.Op.TheVariants as op
use Rattle.rbd_commands.specs.declared.refusal.Refusal.{Refusal}
use Rattle.rbd_kinds.specs.declared.reply.Reply.{Reply}
use Rattle.rbd_kinds.specs.declared.reply.Reply.TheVariants as reply
use Rattle.rbd_machine.specs.Answers.{CanGive}
use Rattle.rbd_machine.specs.Path.{Answered}
use Rattle.rbd_machine.specs.Steps.{EndsIt, not_there, refused}
use Rattle.rbd_lock.specs.Steps.{is_instance_among, taken, lock_held, watched_by, fenced}

-- The steps before are told the latest first.

-- the latest step is this one
pub record IsBehind (step : Answered) (before : List Answered) : Type 0 where
  pub earlier : List Answered
  pub is : before ≡ step ∷ earlier

-- the lock was found to be an owner's
pub record IsBehindHeld (site : SiteId) (image : ℕ) (before : List Answered) : Type 0 where
  pub owner : Instance
  pub behind : IsBehind (lock_held site image owner) before

-- The lock was found to be the owner's, and then the watchers were told. The owner is among them,
-- or isn't.
pub record IsBehindLook (site : SiteId) (image : ℕ) (owner : Instance) (watches : Bool)
    (before : List Answered) : Type 0 where
  pub watchers : List Instance
  pub earlier : List Answered
  pub is : before ≡ watched_by site image watchers ∷ lock_held site image owner ∷ earlier
  pub told : is_instance_among watchers owner ≡ watches

-- an owner was seen among the watchers
pub record IsBehindWatching (site : SiteId) (image : ℕ) (before : List Answered) : Type 0 where
  pub owner : Instance
  pub look : IsBehindLook site image owner true before

-- what may be the last before the lock is asked for: the watch, or an owner was asked, or lost it
abbrev pub ComesBeforeTake : Op → Type 0
ComesBeforeTake (op.Header image header.Watch) = Unit {0}
ComesBeforeTake (op.Header image (header.Notify kind)) = Unit {0}
ComesBeforeTake (op.Header image (header.LockBreak owner)) = Unit {0}
ComesBeforeTake _ = ⊥

abbrev pub MayTakeLock : (before : List Answered) → Type 0
MayTakeLock [] = Unit {0}
MayTakeLock (s ∷ earlier) = ComesBeforeTake s.op

abbrev pub MayNotify : SiteId → (image : ℕ) → NoticeKind → (before : List Answered) → Type 0
MayNotify site image notice.RequestLock before = IsBehindWatching site image before
MayNotify site image _ before = ⊥

abbrev pub MayComeOnHeader : SiteId → (image : ℕ) → HeaderOp → (before : List Answered) → Type 0
MayComeOnHeader site image header.Watch before = before ≡ []
MayComeOnHeader site image header.LockTake before = MayTakeLock before
MayComeOnHeader site image header.WatchersGet before = IsBehindHeld site image before
MayComeOnHeader site image (header.Notify kind) before = MayNotify site image kind before
MayComeOnHeader site image (header.LockBreak owner) before = IsBehind (fenced site owner) before
MayComeOnHeader site image _ before = ⊥

-- An owner is fenced only behind a look that didn't show it among the watchers, and its lock is
-- broken only directly behind its fence.
abbrev pub MayComeBehind : SiteId → (image : ℕ) → Op → (before : List Answered) → Type 0
MayComeBehind site image (op.BlockAdd owner) before = IsBehindLook site image owner false before
MayComeBehind site image (op.Header i o) before = (i ≡ image) × MayComeOnHeader site image o before
MayComeBehind site image _ before = ⊥

-- each step may stand where it does, at the site
abbrev pub AreStepsInOrder : SiteId → (image : ℕ) → (before steps : List Answered) → Type 0
AreStepsInOrder site image before [] = Unit {0}
AreStepsInOrder site image before (s ∷ steps) =
    (s.site ≡ site) × MayComeBehind site image s.op before × AreStepsInOrder site image (s ∷ before) steps

-- ---- what stands right before a step

-- the last step is this one
pub record EndsWith (last : Answered) (steps : List Answered) : Type 0 where
  pub before : List Answered
  pub are : steps ≡ before ++ last ∷ []

-- The last two steps: the lock was found to be the owner's, and the watchers were told. The owner
-- is among them, or isn't.
pub record EndsWithLook (site : SiteId) (image : ℕ) (owner : Instance) (watches : Bool)
    (steps : List Answered) : Type 0 where
  pub before : List Answered
  pub watchers : List Instance
  pub are : steps ≡ before ++ lock_held site image owner ∷ watched_by site image watchers ∷ []
  pub told : is_instance_among watchers owner ≡ watches

-- an owner was seen among the watchers
pub record EndsWithWatching (site : SiteId) (image : ℕ) (steps : List Answered) : Type 0 where
  pub owner : Instance
  pub look : EndsWithLook site image owner true steps

-- ---- how it ends

-- The answer to the last step refuses the request. Of the answers that the step can give these are
-- the fence's, and that something isn't there.
pub record IsRefusedAtLast (x : Refusal) (steps : List Answered) : Type 0 where
  pub last : Answered
  pub ends : EndsWith last steps
  pub by : not_there last.answer ≡ refused x
  pub given : CanGive last.op last.answer → EndsIt last.answer

-- the way ends with the lock, or refused, and in no other way
abbrev pub EndsBy : SiteId → (image : ℕ) → Reply → List Answered → Type 0
EndsBy site image reply.Done steps = EndsWith (taken site image) steps
EndsBy site image (reply.Refused x) steps = IsRefusedAtLast x steps
EndsBy site image _ steps = ⊥
