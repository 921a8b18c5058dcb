-- Faults of lines, and answers that may be one.
use Rattle.std.specs.Prelude.{◌≡◌, ℕ, List, codes, Result, Ok, Err}
use Rattle.rbd_script.specs.declared.fault.LineCause.{LineCause}
use Rattle.rbd_script.specs.declared.fault.LineCause.TheVariants.{UnknownWord, MissingPart, ExtraPart, BadNumber, BadName, ScheduleLine}
use Rattle.rbd_script.specs.declared.fault.LineFault.{LineFault}
use Rattle.rbd_script.specs.declared.fault.PartFault.{PartFault}
use Rattle.rbd_script.specs.declared.fault.PartFault.TheVariants.{Cause, NoMemory}
use Rattle.rbd_script.specs.declared.fault.ScriptFault.{ScriptFault}
use Rattle.rbd_script.specs.declared.fault.ScriptFault.TheVariants.{Line, NoMemory as OutOfMemory}

-- as it is printed
abbrev pub cause_text : LineCause → List ℕ
cause_text UnknownWord = codes "unknown word"
cause_text MissingPart = codes "missing part"
cause_text ExtraPart = codes "extra part"
cause_text BadNumber = codes "bad number"
cause_text BadName = codes "bad name"
cause_text ScheduleLine = codes "schedule line"

-- the fact holds of the first fault, where there is one
abbrev pub AtLine : (LineFault → Type 0) → ScriptFault → Type 0
AtLine P (Line fault) = P fault
AtLine P OutOfMemory = Unit {0}

-- The answer is this reading, the value or the fault; want of memory may come in place of either.
abbrev pub Gives : {A : Type 0} → Result A PartFault → Result A LineCause → Type 0
Gives (Ok value) reading = reading ≡ Ok value
Gives (Err (Cause cause)) reading = reading ≡ Err cause
Gives (Err NoMemory) reading = Unit {0}

-- the same of the front of some tokens: its value, and the tokens that are left
abbrev pub Takes : {A : Type 0} → Result A PartFault → (left : List (List ℕ)) → Result (A × List (List ℕ)) LineCause
    → Type 0
Takes (Ok value) left reading = reading ≡ Ok (value, left)
Takes (Err (Cause cause)) left reading = reading ≡ Err cause
Takes (Err NoMemory) left reading = Unit {0}

-- The answer leaves what this reading is, or is its fault.
abbrev pub Leaves : {A B : Type 0} → Result A PartFault → (left : B) → Result B LineCause → Type 0
Leaves (Ok value) left reading = reading ≡ Ok left
Leaves (Err (Cause cause)) left reading = reading ≡ Err cause
Leaves (Err NoMemory) left reading = Unit {0}

-- the same of the line of a number
abbrev pub LeavesAt : {A B : Type 0} → (number : ℕ) → Result A ScriptFault → (left : B) → Result B LineCause → Type 0
LeavesAt number (Ok value) left reading = reading ≡ Ok left
LeavesAt number (Err (Line fault)) left reading = (reading ≡ Err fault.cause) × (fault.line ≡ number)
LeavesAt number (Err OutOfMemory) left reading = Unit {0}
