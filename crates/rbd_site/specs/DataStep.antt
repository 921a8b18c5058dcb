-- Operations on a data object: the answer, and the object after it. An object that nothing was done
-- to is blank, and one to which a change was done stands for good.
use Rattle.std.specs.Prelude.{◌≡◌, ℕ, ◌≤◌, ◌||◌, not, Bool, List, [], length, if◌then◌else◌, Option, Some, None, is_some, option_map, unwrap_or}
use Rattle.rbd_kinds.specs.declared.answer.Answer.{Answer}
use Rattle.rbd_kinds.specs.declared.answer.Answer.TheVariants as answer
use Rattle.rbd_kinds.specs.declared.data_op.DataOp.{DataOp}
use Rattle.rbd_kinds.specs.declared.data_op.DataOp.TheVariants.{Read, Write, WriteFull, Zero, Empty, Remove, CopyUp}
use Rattle.rbd_kinds.specs.declared.layout.Part.{Part}
use Rattle.rbd_kinds.specs.Parts.{parts_len}
use Rattle.rbd_parts.specs.Parts.{AreWithin, parts_of, parts_written, parts_zeroed}
use Rattle.rbd_object.specs.Mapped.{Mapped, versioned, mapped_change, mapped_copy_up}
use Rattle.rbd_object.specs.Versioned.{view}
use Rattle.rbd_parts.specs.declared.parts.TheConstants.{LARGEST_OBJECT}
use Rattle.rbd_site.specs.Records.{or_blank}
use Rattle.rbd_site.specs.Found.{done_where}

-- The operations that are built, and their conditions: parts within the largest object, with as
-- many bytes as they have.
pub record MayWriteParts (parts : List Part) (bytes : List ℕ) : Type 0 where
  pub within : AreWithin parts
  pub long : length bytes ≡ parts_len parts

abbrev pub MayDoOnData : DataOp → Type 0
MayDoOnData (Write context must parts bytes) = MayWriteParts parts bytes
MayDoOnData (WriteFull context bytes) = length bytes ≤ LARGEST_OBJECT
MayDoOnData op = Unit {0}

abbrev pub parts_read : List Part → Option (List ℕ) → Answer
parts_read parts None = answer.Absent
parts_read parts (Some bytes) = answer.Bytes (parts_of parts bytes)

-- whether a change with `must` finds a head
abbrev pub finds : (must : Bool) → Mapped → Bool
finds must o = not must || is_some o.head

abbrev pub blank_answer : Mapped → DataOp → Answer
blank_answer o (Read snap parts) = parts_read parts (view (versioned o) snap)
blank_answer o (Write context must parts bytes) = done_where (finds must o)
blank_answer o (WriteFull context bytes) = answer.Done
blank_answer o (Zero context must parts) = done_where (finds must o)
blank_answer o (Empty context) = answer.Done
blank_answer o (Remove context) = answer.Done
blank_answer o (CopyUp bytes) = if is_some o.head then answer.Exists else answer.Done

abbrev pub data_answer : Option Mapped → DataOp → Answer
data_answer object op = blank_answer (or_blank object) op

-- the object with the change done
abbrev pub data_change : Mapped → DataOp → Mapped
data_change o (Read snap parts) = o
data_change o (Write context must parts bytes) =
    mapped_change context (Some (parts_written parts bytes (unwrap_or o.head []))) o
data_change o (WriteFull context bytes) = mapped_change context (Some bytes) o
data_change o (Zero context must parts) = mapped_change context (option_map (parts_zeroed parts) o.head) o
data_change o (Empty context) = mapped_change context (Some []) o
data_change o (Remove context) = mapped_change context None o
data_change o (CopyUp bytes) = mapped_copy_up bytes o

-- Only what is done changes the object.
abbrev pub where_object_done : Answer → Mapped → (old : Option Mapped) → Option Mapped
where_object_done answer.Done changed old = Some changed
where_object_done _ changed old = old

abbrev pub data_after : Option Mapped → DataOp → Option Mapped
data_after object op = where_object_done (data_answer object op) (data_change (or_blank object) op) object
