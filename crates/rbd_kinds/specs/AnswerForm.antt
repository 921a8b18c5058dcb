-- The form of the values that answers carry.
use Rattle.std.specs.Prelude.{◌≡◌, ◌-◌, ◌^◌, ◌<◌, length}
use Rattle.rbd_kinds.specs.declared.answer.Answer.{Answer}
use Rattle.rbd_kinds.specs.declared.answer.Answer.TheVariants as answer
use Rattle.rbd_kinds.specs.declared.data_op.DataOp.TheVariants as object
use Rattle.rbd_kinds.specs.declared.header_op.HeaderOp.TheVariants as header
use Rattle.rbd_kinds.specs.declared.journal_op.JournalOp.TheVariants as journal
use Rattle.rbd_kinds.specs.declared.map_op.MapOp.TheVariants as states
use Rattle.rbd_kinds.specs.declared.operation.Op.{Op}
use Rattle.rbd_kinds.specs.declared.operation.Op.TheVariants as op
use Rattle.rbd_kinds.specs.Form.{IsHeaderInForm}
use Rattle.rbd_kinds.specs.Frame.{IsOneFrame}
use Rattle.rbd_kinds.specs.Parts.{parts_len}
use Rattle.rbd_kinds.specs.Spans.{IsJournalInForm}
use Rattle.rbd_kinds.specs.States.{HoldStates}

-- A header keeps its limits. The bytes of a read are as many as its parts have. The bits of a map
-- hold no state 3. A frame is one event's, with the number that was asked for. A journal's spans
-- have no gaps, and it never comes to the last number of 64 bits.
abbrev pub IsInForm : Op → Answer → Type 0
IsInForm (op.Header image header.Get) (answer.Header h) = IsHeaderInForm h
IsInForm (op.Data image number (object.Read snap parts)) (answer.Bytes bytes) = length bytes ≡ parts_len parts
IsInForm (op.Map image (states.Get snap)) (answer.Bits bits) = HoldStates bits
IsInForm (op.Journal image (journal.Read seq)) (answer.Frame position frame) = (position.seq ≡ seq) × IsOneFrame frame
IsInForm (op.Journal image journal.Spans) (answer.Spans view) = IsJournalInForm view
IsInForm (op.Journal image (journal.Append position frame)) answer.Done = position.seq < 2 ^ 64 - 1
IsInForm _ _ = Unit {0}
