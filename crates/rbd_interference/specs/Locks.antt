-- What instances may count on of the locks of images.
use Rattle.std.specs.Prelude.{ℕ, ◌==◌, Bool, false, IsFalse, IsSome}
use Rattle.rbd_kinds.specs.declared.header_op.HeaderOp.TheVariants as header
use Rattle.rbd_kinds.specs.declared.id.Instance.{Instance}
use Rattle.rbd_kinds.specs.declared.id.SiteId.{SiteId}
use Rattle.rbd_kinds.specs.declared.operation.Op.{Op}
use Rattle.rbd_kinds.specs.declared.operation.Op.TheVariants as op
use Rattle.rbd_machine.specs.Knowledge.{Knowledge}
use Rattle.rbd_interference.specs.Truth.{known_header}
use Rattle.rbd_site.specs.Records.{Records}
use Rattle.rbd_site.specs.Step.{is_fenced}
use Rattle.rbd_stands.specs.Owned.{HasLock}

-- The instance has the lock, unless it is fenced: then the lock may have been broken.
abbrev pub HasLockWhileFree : Records → Instance → (image : ℕ) → Type 0
HasLockWhileFree r me image = IsFalse (is_fenced r me) → HasLock image me r

-- whether an operation gives up the lock of the image, where the lock is the own one: removing the
-- header takes the lock with it
abbrev pub gives_up : (image : ℕ) → Op → Bool
gives_up image (op.Header other header.LockDrop) = image == other
gives_up image (op.Header other header.Remove) = image == other
gives_up image o = false

-- Who knows a header, behind its look under the lock, has the lock of the image.
abbrev pub KnowsByLock : SiteId → Records → Instance → Knowledge → Type 0
KnowsByLock site r me k = (image : ℕ) → IsSome (known_header k site image) → HasLockWhileFree r me image
