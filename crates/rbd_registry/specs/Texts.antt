-- How faults are told.
use Rattle.std.specs.Prelude.{ℕ, List, codes}
use Rattle.rbd_values.specs.Memory.{no_memory_text}
use Rattle.rbd_registry.specs.declared.fault.AddFault.{AddFault}
use Rattle.rbd_registry.specs.declared.fault.AddFault.TheVariants as add
use Rattle.rbd_registry.specs.declared.fault.RenameFault.{RenameFault}
use Rattle.rbd_registry.specs.declared.fault.RenameFault.TheVariants as rename

abbrev pub add_text : AddFault → List ℕ
add_text add.Exists = codes "the name is held"
add_text add.Full = codes "the directory is full"
add_text add.NoMemory = no_memory_text

abbrev pub rename_text : RenameFault → List ℕ
rename_text rename.NoName = codes "no such name"
rename_text rename.Exists = codes "the name is held"
rename_text rename.NoMemory = no_memory_text
