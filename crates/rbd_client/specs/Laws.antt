-- What the laws on clients speak of.
use Rattle.std.specs.Prelude.{◌≡◌, ◌||◌, ℕ, Bool, false, IsTrue}
use Rattle.rbd_kinds.specs.declared.answer.Answer.TheVariants as answer
use Rattle.rbd_kinds.specs.declared.header_op.HeaderOp.TheVariants as header
use Rattle.rbd_kinds.specs.declared.id.SiteId.{SiteId}
use Rattle.rbd_kinds.specs.declared.machine.Fed.{Fed}
use Rattle.rbd_kinds.specs.declared.machine.Fed.TheVariants as fed
use Rattle.rbd_kinds.specs.declared.operation.Op.{Op}
use Rattle.rbd_kinds.specs.declared.operation.Op.TheVariants as op
use Rattle.rbd_kinds.specs.Images.{is_at}
use Rattle.rbd_lock.specs.Locks.{LocksView, lock_state_at}
use Rattle.rbd_lock.specs.declared.release.Release.{Release}
use Rattle.rbd_lock.specs.declared.release.Stage.TheVariants as stage

-- the image is quiesced, or another client wants its lock
abbrev pub IsHeldBack : SiteId → (image : ℕ) → LocksView → Type 0
IsHeldBack site image locks = IsTrue
    ((lock_state_at site image locks).quiesced || (lock_state_at site image locks).asked)

-- a release that has yet to drop its lock
abbrev pub DropsALock : Release → Type 0
DropsALock r = r.stage ≡ stage.Dropping

-- the header of the image was removed, and the lock with it
abbrev pub removes_header : SiteId → Op → Fed → SiteId → (image : ℕ) → Bool
removes_header site (op.Header on header.Remove) (fed.Answer answer.Done) there image = is_at site on there image
removes_header site o f there image = false
