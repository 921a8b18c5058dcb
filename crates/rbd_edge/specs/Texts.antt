-- How faults are told.
use Rattle.std.specs.Prelude.{ℕ, List, codes}
use Rattle.rbd_values.specs.Memory.{no_memory_text}
use Rattle.rbd_edge.specs.declared.read.ReadFault.{ReadFault}
use Rattle.rbd_edge.specs.declared.read.ReadFault.TheVariants.{Failed, NoMemory}

-- of a device
abbrev pub failed_text : List ℕ
failed_text = codes "a read or a write failed"

abbrev pub read_text : ReadFault → List ℕ
read_text Failed = codes "a read failed"
read_text NoMemory = no_memory_text
