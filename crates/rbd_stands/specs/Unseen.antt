-- Operations on what a flat image doesn't have, and on one image.
use Rattle.std.specs.Prelude.{◌==◌, ℕ, Bool, true, false}
use Rattle.rbd_kinds.specs.declared.header_op.HeaderOp.{HeaderOp}
use Rattle.rbd_kinds.specs.declared.header_op.HeaderOp.TheVariants as header_op
use Rattle.rbd_kinds.specs.declared.operation.Op.{Op}
use Rattle.rbd_kinds.specs.declared.operation.Op.TheVariants as op

-- an operation on what a flat image doesn't have: the lock, who watches, and whether a full copy is
-- under way
abbrev pub is_unseen : HeaderOp → Bool
is_unseen header_op.LockTake = true
is_unseen header_op.LockDrop = true
is_unseen (header_op.LockBreak owner) = true
is_unseen header_op.Synced = true
is_unseen header_op.Watch = true
is_unseen header_op.Unwatch = true
is_unseen header_op.WatchersGet = true
is_unseen (header_op.Notify kind) = true
is_unseen _ = false

-- an operation on the header or the objects of an image
abbrev pub is_about : (image : ℕ) → Op → Bool
is_about image (op.Header other o) = other == image
is_about image (op.Data other number o) = other == image
is_about image _ = false
