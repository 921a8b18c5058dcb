-- The operations by which a lock changes hands, and who watches.
use Rattle.std.specs.Prelude.{ℕ, Bool, List}
use Rattle.std.specs.List.{list_any}
use Rattle.rbd_kinds.specs.declared.answer.Answer.TheVariants as answer
use Rattle.rbd_kinds.specs.declared.header_op.HeaderOp.TheVariants as header
use Rattle.rbd_kinds.specs.declared.id.Instance.{Instance}
use Rattle.rbd_kinds.specs.declared.id.SiteId.{SiteId}
use Rattle.rbd_kinds.specs.declared.notice.NoticeKind.TheVariants as notice
use Rattle.rbd_kinds.specs.declared.operation.Op.{Op}
use Rattle.rbd_kinds.specs.declared.operation.Op.TheVariants as op
use Rattle.rbd_kinds.specs.Instances.{same_instance}
use Rattle.rbd_machine.specs.Path.{Answered}

-- ---- operations

abbrev pub watch : (image : ℕ) → Op
watch image = op.Header image header.Watch

abbrev pub lock_take : (image : ℕ) → Op
lock_take image = op.Header image header.LockTake

abbrev pub lock_drop : (image : ℕ) → Op
lock_drop image = op.Header image header.LockDrop

abbrev pub lock_break : (image : ℕ) → (owner : Instance) → Op
lock_break image owner = op.Header image (header.LockBreak owner)

abbrev pub watchers_get : (image : ℕ) → Op
watchers_get image = op.Header image header.WatchersGet

abbrev pub block_add : (owner : Instance) → Op
block_add owner = op.BlockAdd owner

-- the watchers are told that the lock is wanted
abbrev pub request_lock : (image : ℕ) → Op
request_lock image = op.Header image (header.Notify notice.RequestLock)

-- the watchers are told that the lock was let go
abbrev pub released_lock : (image : ℕ) → Op
released_lock image = op.Header image (header.Notify notice.ReleasedLock)

-- ---- who watches

abbrev pub is_instance_among : List Instance → Instance → Bool
is_instance_among watchers owner = list_any (λ w. same_instance w owner) watchers

-- ---- operations that were done

-- the lock was taken
abbrev pub taken : SiteId → (image : ℕ) → Answered
taken site image = record { site = site; op = lock_take image; answer = answer.Done }

-- the lock wasn't taken, since an instance has it
abbrev pub lock_held : SiteId → (image : ℕ) → (owner : Instance) → Answered
lock_held site image owner = record { site = site; op = lock_take image; answer = answer.Held owner }

-- the watchers of an image were told
abbrev pub watched_by : SiteId → (image : ℕ) → List Instance → Answered
watched_by site image watchers = record { site = site; op = watchers_get image; answer = answer.Instances watchers }

-- an instance was put into the site's blocklist
abbrev pub fenced : SiteId → (owner : Instance) → Answered
fenced site owner = record { site = site; op = block_add owner; answer = answer.Done }
