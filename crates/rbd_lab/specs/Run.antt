-- What a run of the program answers, and what it leaves.
use Rattle.std.specs.Prelude.{◌≡◌, ◌≢◌, ◌⊎◌, ◌↔◌, ℕ, ◌+◌, List, [], drop, Option, Some, None, IfSome, Ok, Err}
use Rattle.rbd_edge.specs.Sink.{held_with, GainsFront}
use Rattle.rbd_edge.specs.Source.{IsFurther}
use Rattle.rbd_script.specs.declared.fault.LineFault.{LineFault}
use Rattle.rbd_script.specs.declared.script.Script.{Script}
use Rattle.rbd_script.specs.Reading.{limit}
use Rattle.rbd_text.specs.Text.{usage_text}
use Rattle.rbd_words.specs.declared.asked.Asked.{Asked}
use Rattle.rbd_words.specs.declared.asked.Asked.TheVariants.{Run, Generate}
use Rattle.rbd_words.specs.declared.asked.Mode.{Mode}
use Rattle.rbd_words.specs.declared.load.Load.{Load}
use Rattle.rbd_words.specs.Words.{asked_for_by}
use Rattle.rbd_lab.specs.Script.{IsBuiltScript, judged, fault_text}
use Rattle.rbd_lab.specs.Output.{IsSummed, TellsAWorld}
use Rattle.rbd_lab.specs.declared.run.Status.{Status}
use Rattle.rbd_lab.specs.declared.run.Status.TheVariants.{Done, Usage, BadLine, ReadFault, WriteFault, NoMemory}

-- ---- what is printed

-- The bytes are a script of built forms, and the text tells a play of it.
pub record IsOutput (mode : Mode) (bytes text : List ℕ) : Type 0 where
  pub script : Script
  pub is_script : judged bytes ≡ Ok script
  pub told : TellsAWorld mode script text

-- The bytes are no such script, and the text tells the first fault of a line.
pub record IsComplaint (bytes text : List ℕ) : Type 0 where
  pub fault : LineFault
  pub faulty : judged bytes ≡ Err fault
  pub output : text ≡ fault_text fault

-- what is to be printed for these bytes, and the status that goes with it
abbrev pub IsToPrint : Mode → (bytes : List ℕ) → Status → (text : List ℕ) → Type 0
IsToPrint mode bytes Done text = IsOutput mode bytes text
IsToPrint mode bytes BadLine text = IsComplaint bytes text
IsToPrint mode bytes Usage text = ⊥
IsToPrint mode bytes ReadFault text = ⊥
IsToPrint mode bytes WriteFault text = ⊥
IsToPrint mode bytes NoMemory text = ⊥

-- what is to be printed for these bytes
abbrev pub IsText : Mode → (bytes text : List ℕ) → Type 0
IsText mode bytes text = IsOutput mode bytes text ⊎ IsComplaint bytes text

-- a text of which this holds was printed, whole or a first part of it
abbrev pub Prints : (List ℕ → Type 0) → Option (List ℕ) → Option (List ℕ) → Type 0
Prints P old new = (text : List ℕ) × P text × (new ≡ held_with text old)

abbrev pub PrintsFront : (List ℕ → Type 0) → Option (List ℕ) → Option (List ℕ) → Type 0
PrintsFront P old new = (text : List ℕ) × P text × GainsFront text old new

-- ---- a run's devices

-- What a run sees of its devices: what the source has left and the sink holds, where they tell,
-- and how many faults each counted.
pub record Devices : Type 0 where
  pub left : Option (List ℕ)
  pub held : Option (List ℕ)
  pub read_faults : ℕ
  pub write_faults : ℕ

abbrev pub devices : (left held : Option (List ℕ)) → (read_faults write_faults : ℕ) → Devices
devices left held read_faults write_faults =
    record { left = left; held = held; read_faults = read_faults; write_faults = write_faults }

-- the status tells whether a count of faults rose
abbrev pub TellsFaults : Status → Status → (faults faults' : ℕ) → Type 0
TellsFaults fault status faults faults' = ((status ≡ fault) ↔ (faults' ≡ faults + 1))
    × (status ≢ fault → faults' ≡ faults)

-- ---- the ends of a run, by what it was asked for

-- A script was asked for. It ends in any way but by the usage line.
pub record IsScriptRun (mode : Mode) (status : Status) (old new : Devices) : Type 0 where
  -- the source was read to its end, its bytes are a script, and its output was printed
  pub done : status ≡ Done → IfSome old.left
      (λ bytes. Prints (IsOutput mode bytes) old.held new.held × (new.left ≡ Some []))
  -- the source was read to its end or one byte past the limit, and the first line that doesn't fit
  -- was printed
  pub bad_line : status ≡ BadLine
      → IfSome old.left (λ bytes. Prints (IsComplaint bytes) old.held new.held
      × (new.left ≡ Some (drop (limit + 1) bytes)))
  pub usage : status ≢ Usage
  -- the faults come exactly where a device counted one
  pub read_fault : TellsFaults ReadFault status old.read_faults new.read_faults
  pub write_fault : TellsFaults WriteFault status old.write_faults new.write_faults
  -- at most one byte past the limit was taken, however the run ends
  pub taken : IsFurther (limit + 1) old.left new.left
  -- the sink has some first part of what was to be printed, and not all of it
  pub cut : status ≡ WriteFault → IfSome old.left (λ bytes. PrintsFront (IsText mode bytes) old.held new.held)
  -- nothing was printed
  pub unread : status ≡ ReadFault → new.held ≡ old.held
  pub no_memory : status ≡ NoMemory → new.held ≡ old.held

-- A load was asked for: a script is generated, and not read. It is done, or the sink failed, or
-- memory was refused.
pub record IsLoadRun (load : Load) (status : Status) (held held' : Option (List ℕ))
    (write_faults write_faults' : ℕ) : Type 0 where
  pub ends : (status ≡ Done) ⊎ (status ≡ WriteFault) ⊎ (status ≡ NoMemory)
  pub done : status ≡ Done → Prints (IsSummed load) held held'
  pub write_fault : TellsFaults WriteFault status write_faults write_faults'
  pub cut : status ≡ WriteFault → PrintsFront (IsSummed load) held held'
  pub no_memory : status ≡ NoMemory → held' ≡ held

-- The words aren't understood: the usage line was printed, or the sink failed before its end, or
-- memory was refused while the words were read.
pub record IsUsageRun (status : Status) (held held' : Option (List ℕ)) (write_faults write_faults' : ℕ) : Type 0 where
  pub ends : (status ≡ Usage) ⊎ (status ≡ WriteFault) ⊎ (status ≡ NoMemory)
  pub usage : status ≡ Usage → held' ≡ held_with usage_text held
  pub write_fault : TellsFaults WriteFault status write_faults write_faults'
  pub cut : status ≡ WriteFault → PrintsFront (λ text. text ≡ usage_text) held held'
  pub no_memory : status ≡ NoMemory → held' ≡ held

-- the source is as it was, and counted no fault
pub record IsUnread {S : Type 0} (source source' : S) (old new : Devices) : Type 0 where
  pub same : source' ≡ source
  pub left : new.left ≡ old.left
  pub read_faults : new.read_faults ≡ old.read_faults

abbrev pub RunEndsBy : {S : Type 0} → Option Asked → Status → (source source' : S) → (old new : Devices) → Type 0
RunEndsBy (Some (Run mode)) status source source' old new = IsScriptRun mode status old new
RunEndsBy (Some (Generate load)) status source source' old new =
    IsLoadRun load status old.held new.held old.write_faults new.write_faults × IsUnread source source' old new
RunEndsBy None status source source' old new =
    IsUsageRun status old.held new.held old.write_faults new.write_faults × IsUnread source source' old new

-- How a run with these words ended, and what it left of its devices and of the source itself.
abbrev pub IsRun : {S : Type 0} → (words : List (List ℕ)) → Status → (source source' : S) → (old new : Devices) → Type 0
IsRun words status source source' old new = RunEndsBy (asked_for_by words) status source source' old new

-- ---- where nothing is in a run's way

-- The source shows that it has a script of built forms, and no device counted a fault.
pub record HasScript (old new : Devices) : Type 0 where
  pub bytes : List ℕ
  pub shown : old.left ≡ Some bytes
  pub script : Script
  pub is_script : IsBuiltScript bytes script
  pub reads : new.read_faults ≡ old.read_faults
  pub writes : new.write_faults ≡ old.write_faults

-- The words are understood, and what they ask for is there.
abbrev pub IsUnhinderedBy : Option Asked → (old new : Devices) → Type 0
IsUnhinderedBy (Some (Run mode)) old new = HasScript old new
IsUnhinderedBy (Some (Generate load)) old new = new.write_faults ≡ old.write_faults
IsUnhinderedBy None old new = ⊥

abbrev pub IsUnhindered : (words : List (List ℕ)) → (old new : Devices) → Type 0
IsUnhindered words old new = IsUnhinderedBy (asked_for_by words) old new

-- the run is done, or memory was refused
abbrev pub IsDoneOrRefused : Status → Type 0
IsDoneOrRefused status = (status ≡ Done) ⊎ (status ≡ NoMemory)

-- ---- statuses

-- the exit statuses
abbrev pub code_of : Status → ℕ
code_of Done = 0
code_of Usage = 1
code_of BadLine = 2
code_of ReadFault = 3
code_of WriteFault = 4
code_of NoMemory = 5
