-- Where memory is refused while the words are read, whatever they ask for, no device is touched.
use Rattle.std.proofs.Common.{◌≡◌, ℕ, List, Option, Some, None, inr, refl, arith}
use Rattle.rbd_edge.specs.Source.{left_after}
use Rattle.rbd_lab.specs.Run.{Devices, RunEndsBy, IsLoadRun, IsScriptRun, IsUnread, IsUsageRun, TellsFaults}
use Rattle.rbd_lab.specs.declared.run.Status.TheVariants.{Done, Usage, BadLine, ReadFault, WriteFault, NoMemory}
use Rattle.rbd_words.specs.declared.asked.Asked.{Asked}
use Rattle.rbd_words.specs.declared.asked.Asked.TheVariants.{Run, Generate}
use Rattle.rbd_words.specs.declared.asked.Mode.{Mode}
use Rattle.rbd_words.specs.declared.load.Load.{Load}

not_done : NoMemory ≡ Done → ⊥
not_done same = cc

not_usage : NoMemory ≡ Usage → ⊥
not_usage same = cc

not_bad_line : NoMemory ≡ BadLine → ⊥
not_bad_line same = cc

not_read_fault : NoMemory ≡ ReadFault → ⊥
not_read_fault same = cc

not_write_fault : NoMemory ≡ WriteFault → ⊥
not_write_fault same = cc

no_read_fault : (faults : ℕ) → TellsFaults ReadFault NoMemory faults faults
no_read_fault faults = ((λ same. absurd (not_read_fault same), λ more. absurd (omega (arith, more))), λ other. refl)

no_write_fault : (faults : ℕ) → TellsFaults WriteFault NoMemory faults faults
no_write_fault faults = ((λ same. absurd (not_write_fault same), λ more. absurd (omega (arith, more))), λ other. refl)

none_taken : (left : Option (List ℕ)) → left ≡ left_after 0 left
none_taken None = refl
none_taken (Some bytes) = refl

untouched : {S : Type 0} (source : S) (d : Devices) → IsUnread source source d d
untouched source d = record { same = refl; left = refl; read_faults = refl }

script_refused : (mode : Mode) (d : Devices) → IsScriptRun mode NoMemory d d
script_refused mode d = record {
  done = λ is. absurd (not_done is);
  bad_line = λ is. absurd (not_bad_line is);
  usage = not_usage;
  read_fault = no_read_fault d.read_faults;
  write_fault = no_write_fault d.write_faults;
  taken = (0, omega arith, none_taken d.left);
  cut = λ is. absurd (not_write_fault is);
  unread = λ is. refl;
  no_memory = λ is. refl;
}

load_refused : (load : Load) (held : Option (List ℕ)) (faults : ℕ) → IsLoadRun load NoMemory held held faults faults
load_refused load held faults = record {
  ends = inr (inr refl);
  done = λ is. absurd (not_done is);
  write_fault = no_write_fault faults;
  cut = λ is. absurd (not_write_fault is);
  no_memory = λ is. refl;
}

usage_refused : (held : Option (List ℕ)) (faults : ℕ) → IsUsageRun NoMemory held held faults faults
usage_refused held faults = record {
  ends = inr (inr refl);
  usage = λ is. absurd (not_usage is);
  write_fault = no_write_fault faults;
  cut = λ is. absurd (not_write_fault is);
  no_memory = λ is. refl;
}

pub memory_refused : {S : Type 0} (asked : Option Asked) (source : S) (d : Devices) → RunEndsBy asked NoMemory source source d d
memory_refused (Some (Run mode)) source d = script_refused mode d
memory_refused (Some (Generate load)) source d = (load_refused load d.held d.write_faults, untouched source d)
memory_refused None source d = (usage_refused d.held d.write_faults, untouched source d)
