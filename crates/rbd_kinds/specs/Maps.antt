-- Whose object map of an image an operation is on: a snapshot's, or the head's.
use Rattle.std.specs.Prelude.{ℕ, Option, None}
use Rattle.rbd_kinds.specs.declared.map_op.MapOp.{MapOp}
use Rattle.rbd_kinds.specs.declared.map_op.MapOp.TheVariants.{Resize, Get, Put, Set, Remove}

abbrev pub map_snap : MapOp → Option ℕ
map_snap (Resize count) = None
map_snap (Get snap) = snap
map_snap (Put snap bits) = snap
map_snap (Set snap object state) = snap
map_snap (Remove snap) = snap
