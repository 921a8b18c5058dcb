-- How faults are told.
use Rattle.std.specs.Prelude.{ℕ, List, codes}
use Rattle.rbd_values.specs.Memory.{no_memory_text}
use Rattle.rbd_header.specs.declared.fault.SnapAddFault.{SnapAddFault}
use Rattle.rbd_header.specs.declared.fault.SnapAddFault.TheVariants.{Exists, Full, NoMemory}

abbrev pub snap_add_text : SnapAddFault → List ℕ
snap_add_text Exists = codes "the snapshot exists"
snap_add_text Full = codes "the header is full of snapshots"
snap_add_text NoMemory = no_memory_text

-- of a lock that has another owner
abbrev pub held_text : List ℕ
held_text = codes "the lock is held"
