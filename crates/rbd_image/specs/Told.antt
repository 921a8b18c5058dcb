-- How many objects are in use by what a request was told, and what it was told of journals.
use Rattle.std.specs.Prelude.{◌≡◌, ℕ, ◌+◌, false, List, [], ◌∷◌, length}
use Rattle.rbd_kinds.specs.declared.answer.Answer.{Answer}
use Rattle.rbd_kinds.specs.declared.answer.Answer.TheVariants as answer
use Rattle.rbd_kinds.specs.declared.journal_op.JournalOp.TheVariants as journal
use Rattle.rbd_kinds.specs.declared.operation.Op.{Op}
use Rattle.rbd_kinds.specs.declared.operation.Op.TheVariants as op
use Rattle.rbd_machine.specs.Path.{Answered}
use Rattle.rbd_meaning.specs.Removals.{used_objects}

-- by the bits of an answer
abbrev pub objects_by_bits : Answer → ℕ
objects_by_bits (answer.Bits bits) = length (used_objects bits)
objects_by_bits _ = 0

-- by those of all answers
abbrev pub objects_told : List Answered → ℕ
objects_told [] = 0
objects_told (step ∷ steps) = objects_by_bits step.answer + objects_told steps

-- the journal that is removed is there
abbrev pub FindsJournal : Op → Answer → Type 0
FindsJournal (op.Journal image journal.Remove) answer.Absent = ⊥
FindsJournal o a = Unit {0}

-- so it is with each operation and its answer
abbrev pub FindJournals : List Answered → Type 0
FindJournals [] = Unit {0}
FindJournals (step ∷ steps) = FindsJournal step.op step.answer × FindJournals steps

-- a header that is told has no journal
abbrev pub TellsNoJournal : Answer → Type 0
TellsNoJournal (answer.Header h) = h.journal ≡ false
TellsNoJournal _ = Unit {0}

-- so it is with each answer
abbrev pub AreJournalless : List Answered → Type 0
AreJournalless [] = Unit {0}
AreJournalless (step ∷ steps) = TellsNoJournal step.answer × AreJournalless steps
