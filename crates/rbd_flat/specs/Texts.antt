-- How faults are told.
use Rattle.std.specs.Prelude.{ℕ, List, codes}
use Rattle.rbd_values.specs.Memory.{no_memory_text}
use Rattle.rbd_flat.specs.declared.fault.FlatFault.{FlatFault}
use Rattle.rbd_flat.specs.declared.fault.FlatFault.TheVariants.{NoImage, NoSnap, BadRange, NoMemory}

abbrev pub fault_text : FlatFault → List ℕ
fault_text NoImage = codes "no such image"
fault_text NoSnap = codes "no such snapshot"
fault_text BadRange = codes "the extent is empty or ends past the size"
fault_text NoMemory = no_memory_text
