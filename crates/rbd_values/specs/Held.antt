-- The bytes and the items that a value holds, in memory of its own or in shared memory.
use Rattle.std.specs.Prelude.{ℕ, List}
use Rattle.rbd_values.specs.declared.byte_string.Held.{Held as HeldBytes}
use Rattle.rbd_values.specs.declared.byte_string.Held.TheVariants as bytes_in
use Rattle.rbd_values.specs.declared.sequence.Held.{Held as HeldItems}
use Rattle.rbd_values.specs.declared.sequence.Held.TheVariants as items_in

abbrev pub bytes_held : HeldBytes → List ℕ
bytes_held (bytes_in.Own bytes) = bytes.items
bytes_held (bytes_in.Shared bytes) = bytes

abbrev pub items_held : {T : Type 0} → HeldItems T → List T
items_held (items_in.Own items) = items.items
items_held (items_in.Shared items) = items.value.items
