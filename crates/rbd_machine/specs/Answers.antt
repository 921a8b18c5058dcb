-- Which answers an operation can give. What no request ever gets isn't counted: a header, a journal
-- or a snapshot that is made is new, since its id was just drawn or was looked up under the lock.
use Rattle.std.specs.Prelude.{◌≡◌, Bool, true, false, None}
use Rattle.rbd_kinds.specs.declared.answer.Answer.{Answer}
use Rattle.rbd_kinds.specs.declared.answer.Answer.TheVariants as answer
use Rattle.rbd_kinds.specs.declared.children_op.ChildrenOp.{ChildrenOp}
use Rattle.rbd_kinds.specs.declared.children_op.ChildrenOp.TheVariants as child
use Rattle.rbd_kinds.specs.declared.data_op.DataOp.{DataOp}
use Rattle.rbd_kinds.specs.declared.data_op.DataOp.TheVariants as object
use Rattle.rbd_kinds.specs.declared.directory_op.DirectoryOp.{DirectoryOp}
use Rattle.rbd_kinds.specs.declared.directory_op.DirectoryOp.TheVariants as directory
use Rattle.rbd_kinds.specs.declared.header_op.HeaderOp.{HeaderOp}
use Rattle.rbd_kinds.specs.declared.header_op.HeaderOp.TheVariants as header
use Rattle.rbd_kinds.specs.declared.journal_op.JournalOp.{JournalOp}
use Rattle.rbd_kinds.specs.declared.journal_op.JournalOp.TheVariants as journal
use Rattle.rbd_kinds.specs.declared.machine.Fed.{Fed}
use Rattle.rbd_kinds.specs.declared.machine.Fed.TheVariants as fed
use Rattle.rbd_kinds.specs.declared.map_op.MapOp.{MapOp}
use Rattle.rbd_kinds.specs.declared.map_op.MapOp.TheVariants as states
use Rattle.rbd_kinds.specs.declared.operation.Op.{Op}
use Rattle.rbd_kinds.specs.declared.operation.Op.TheVariants as op
use Rattle.rbd_kinds.specs.AnswerForm.{IsInForm}
use Rattle.rbd_kinds.specs.Form.{IsHeaderInForm}
use Rattle.rbd_machine.specs.Plan.{Plan, Ask, Await, Note}

-- ---- the words, by the kind of object

abbrev pub directory_gives : DirectoryOp → Answer → Bool
directory_gives (directory.Find name) (answer.Id image) = true
directory_gives (directory.Find name) answer.Absent = true
directory_gives (directory.Add name) (answer.Id image) = true
directory_gives (directory.Add name) answer.Exists = true
directory_gives (directory.Add name) answer.Full = true
directory_gives (directory.Remove image) answer.Done = true
directory_gives (directory.Remove image) answer.Absent = true
directory_gives (directory.Rename from to) answer.Done = true
directory_gives (directory.Rename from to) answer.Absent = true
directory_gives (directory.Rename from to) answer.Exists = true
directory_gives directory.List (answer.Names names) = true
directory_gives _ _ = false

abbrev pub children_give : ChildrenOp → Answer → Bool
children_give (child.Add parent snap image) answer.Done = true
children_give (child.Remove parent snap image) answer.Done = true
children_give (child.Remove parent snap image) answer.Absent = true
children_give (child.List parent snap) (answer.Ids images) = true
children_give _ _ = false

-- done where the header is there
abbrev pub changes_or_not : Answer → Bool
changes_or_not answer.Done = true
changes_or_not answer.Absent = true
changes_or_not _ = false

abbrev pub header_gives : HeaderOp → Answer → Bool
header_gives (header.Create view) answer.Done = true
header_gives (header.Create view) _ = false
header_gives header.Get (answer.Header h) = true
header_gives header.Get answer.Absent = true
header_gives header.Get _ = false
header_gives (header.SnapAdd name) (answer.Snap snap) = true
header_gives (header.SnapAdd name) answer.Absent = true
header_gives (header.SnapAdd name) _ = false
header_gives header.LockTake (answer.Held owner) = true
header_gives header.LockDrop answer.Changed = true
header_gives (header.LockBreak owner) answer.Changed = true
header_gives header.WatchersGet (answer.Instances watchers) = true
header_gives header.WatchersGet answer.Absent = true
header_gives header.WatchersGet _ = false
header_gives _ a = changes_or_not a

abbrev pub object_gives : DataOp → Answer → Bool
object_gives (object.Read snap parts) (answer.Bytes bytes) = true
object_gives (object.Read snap parts) answer.Absent = true
object_gives (object.Read snap parts) _ = false
object_gives (object.Write context true parts bytes) answer.Absent = true
object_gives (object.Zero context true parts) answer.Absent = true
object_gives (object.CopyUp bytes) answer.Exists = true
object_gives _ answer.Done = true
object_gives _ _ = false

abbrev pub map_gives : MapOp → Answer → Bool
map_gives (states.Get snap) (answer.Bits bits) = true
map_gives (states.Get snap) answer.Absent = true
map_gives (states.Get snap) _ = false
map_gives (states.Set None number state) answer.Absent = true
map_gives (states.Remove snap) answer.Absent = true
map_gives _ answer.Done = true
map_gives _ _ = false

abbrev pub journal_gives : JournalOp → Answer → Bool
journal_gives (journal.Create spans) answer.Done = true
journal_gives (journal.Create spans) _ = false
journal_gives journal.Tag (answer.Tag tag) = true
journal_gives journal.Tag answer.Absent = true
journal_gives journal.Tag _ = false
journal_gives (journal.Read seq) (answer.Frame position frame) = true
journal_gives (journal.Read seq) answer.Absent = true
journal_gives (journal.Read seq) _ = false
journal_gives journal.Spans (answer.Spans view) = true
journal_gives journal.Spans answer.Absent = true
journal_gives journal.Spans _ = false
journal_gives _ a = changes_or_not a

abbrev pub gives : Op → Answer → Bool
gives _ answer.Fenced = true
gives (op.Directory o) a = directory_gives o a
gives (op.Children o) a = children_give o a
gives (op.BlockAdd instance) answer.Done = true
gives (op.BlockAdd instance) _ = false
gives (op.Header image o) a = header_gives o a
gives (op.Data image number o) a = object_gives o a
gives (op.Map image o) a = map_gives o a
gives (op.Journal image o) a = journal_gives o a

-- ---- with values in form

pub record CanGive (o : Op) (a : Answer) : Type 0 where
  pub word : gives o a ≡ true
  pub form : IsInForm o a

-- A request is fed an answer that its operation can give, or that it has what else it waited for.
abbrev pub CanBeFed : Plan → Fed → Type 0
CanBeFed (Ask site why o next) (fed.Answer a) = CanGive o a
CanBeFed (Await wait next) fed.Passed = Unit {0}
CanBeFed (Note site image event next) fed.Passed = Unit {0}
CanBeFed _ _ = ⊥

-- ---- answers whose form is that of their header

-- the answer carries neither bytes nor bits, a frame or spans
abbrev pub is_plain : Op → Answer → Bool
is_plain (op.Data image number o) (answer.Bytes bytes) = false
is_plain (op.Map image o) (answer.Bits bits) = false
is_plain (op.Journal image o) a = false
is_plain _ _ = true

-- a header that is told is in form
abbrev pub IsHeaderToldInForm : Answer → Type 0
IsHeaderToldInForm (answer.Header h) = IsHeaderInForm h
IsHeaderToldInForm _ = Unit {0}
