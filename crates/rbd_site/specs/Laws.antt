-- What the laws of operations speak of.
use Rattle.std.specs.Prelude.{ℕ, ◌==◌, ◌&&◌, nat_eq, Bool, true, false, Option}
use Rattle.std.specs.Option.{option_eq}
use Rattle.rbd_kinds.specs.declared.answer.Answer.{Answer}
use Rattle.rbd_kinds.specs.declared.answer.Answer.TheVariants as answer
use Rattle.rbd_kinds.specs.declared.children_op.ChildrenOp.TheVariants as children
use Rattle.rbd_kinds.specs.declared.data_op.DataOp.TheVariants as object
use Rattle.rbd_kinds.specs.declared.directory_op.DirectoryOp.TheVariants as directory
use Rattle.rbd_kinds.specs.declared.header_op.HeaderOp.TheVariants as header
use Rattle.rbd_kinds.specs.declared.map_op.MapOp.TheVariants as states
use Rattle.rbd_kinds.specs.declared.operation.Op.{Op}
use Rattle.rbd_kinds.specs.declared.operation.Op.TheVariants as on
use Rattle.rbd_kinds.specs.Maps.{map_snap}

abbrev pub is_on_directory : Op → Bool
is_on_directory (on.Directory op) = true
is_on_directory op = false

abbrev pub is_on_children : Op → Bool
is_on_children (on.Children op) = true
is_on_children op = false

abbrev pub is_on_header : (image : ℕ) → Op → Bool
is_on_header i (on.Header image op) = i == image
is_on_header i op = false

abbrev pub is_on_object : (image number : ℕ) → Op → Bool
is_on_object i n (on.Data image number op) = (i == image) && (n == number)
is_on_object i n op = false

-- of the head (None) or of a snapshot
abbrev pub is_on_map : (image : ℕ) (view : Option ℕ) → Op → Bool
is_on_map i v (on.Map image op) = (i == image) && option_eq nat_eq v (map_snap op)
is_on_map i v op = false

abbrev pub is_block_add : Op → Bool
is_block_add (on.BlockAdd instance) = true
is_block_add op = false

-- the answers with which something may have changed
abbrev pub may_have_changed : Answer → Bool
may_have_changed answer.Done = true
may_have_changed (answer.Id image) = true
may_have_changed (answer.Snap snap) = true
may_have_changed a = false

-- an operation that changes no record
abbrev pub is_look : Op → Bool
is_look (on.Directory (directory.Find name)) = true
is_look (on.Directory directory.List) = true
is_look (on.Children (children.List parent snap)) = true
is_look (on.Header image header.Get) = true
is_look (on.Header image header.WatchersGet) = true
is_look (on.Header image (header.Notify kind)) = true
is_look (on.Data image number (object.Read snap parts)) = true
is_look (on.Map image (states.Get snap)) = true
is_look _ = false

-- an operation on the lock of an image
abbrev pub is_on_lock : Op → Bool
is_on_lock (on.Header image header.LockTake) = true
is_on_lock (on.Header image header.LockDrop) = true
is_on_lock (on.Header image (header.LockBreak owner)) = true
is_on_lock _ = false
