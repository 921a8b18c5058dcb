-- The kind of each operation.
use Rattle.rbd_kinds.specs.declared.operation_kind.OpKind.{OpKind}
use Rattle.rbd_kinds.specs.declared.operation_kind.OpKind.TheVariants as kind
use Rattle.rbd_kinds.specs.declared.operation.Op.{Op}
use Rattle.rbd_kinds.specs.declared.operation.Op.TheVariants as op
use Rattle.rbd_kinds.specs.declared.directory_op.DirectoryOp.{DirectoryOp}
use Rattle.rbd_kinds.specs.declared.directory_op.DirectoryOp.TheVariants as directory
use Rattle.rbd_kinds.specs.declared.children_op.ChildrenOp.{ChildrenOp}
use Rattle.rbd_kinds.specs.declared.children_op.ChildrenOp.TheVariants as children
use Rattle.rbd_kinds.specs.declared.header_op.HeaderOp.{HeaderOp}
use Rattle.rbd_kinds.specs.declared.header_op.HeaderOp.TheVariants as header
use Rattle.rbd_kinds.specs.declared.data_op.DataOp.{DataOp}
use Rattle.rbd_kinds.specs.declared.data_op.DataOp.TheVariants as object
use Rattle.rbd_kinds.specs.declared.map_op.MapOp.{MapOp}
use Rattle.rbd_kinds.specs.declared.map_op.MapOp.TheVariants as map
use Rattle.rbd_kinds.specs.declared.journal_op.JournalOp.{JournalOp}
use Rattle.rbd_kinds.specs.declared.journal_op.JournalOp.TheVariants as journal

abbrev pub directory_kind : DirectoryOp → OpKind
directory_kind (directory.Find name) = kind.DirFind
directory_kind (directory.Add name) = kind.DirAdd
directory_kind (directory.Remove image) = kind.DirRemove
directory_kind (directory.Rename from to) = kind.DirRename
directory_kind directory.List = kind.DirList

abbrev pub children_kind : ChildrenOp → OpKind
children_kind (children.Add parent snap child) = kind.ChildAdd
children_kind (children.Remove parent snap child) = kind.ChildRemove
children_kind (children.List parent snap) = kind.ChildList

abbrev pub header_kind : HeaderOp → OpKind
header_kind (header.Create view) = kind.HeaderCreate
header_kind header.Get = kind.HeaderGet
header_kind (header.SetSize size) = kind.HeaderSetSize
header_kind (header.SnapAdd name) = kind.HeaderSnapAdd
header_kind (header.SnapRemove snap) = kind.HeaderSnapRemove
header_kind (header.SnapStatus snap status) = kind.HeaderSnapStatus
header_kind header.Detach = kind.HeaderDetach
header_kind (header.Role role) = kind.HeaderRole
header_kind header.Mirror = kind.HeaderMirror
header_kind header.Synced = kind.HeaderSynced
header_kind header.Remove = kind.HeaderRemove
header_kind header.LockTake = kind.LockTake
header_kind header.LockDrop = kind.LockDrop
header_kind (header.LockBreak owner) = kind.LockBreak
header_kind header.Watch = kind.Watch
header_kind header.Unwatch = kind.Unwatch
header_kind header.WatchersGet = kind.WatchersGet
header_kind (header.Notify k) = kind.Notify

abbrev pub data_kind : DataOp → OpKind
data_kind (object.Read snap parts) = kind.DataRead
data_kind (object.Write context must parts bytes) = kind.DataWrite
data_kind (object.WriteFull context bytes) = kind.DataWriteFull
data_kind (object.Zero context must parts) = kind.DataZero
data_kind (object.Empty context) = kind.DataEmpty
data_kind (object.Remove context) = kind.DataRemove
data_kind (object.CopyUp bytes) = kind.DataCopyUp

abbrev pub map_kind : MapOp → OpKind
map_kind (map.Resize count) = kind.MapResize
map_kind (map.Get snap) = kind.MapGet
map_kind (map.Put snap bits) = kind.MapPut
map_kind (map.Set snap object state) = kind.MapSet
map_kind (map.Remove snap) = kind.MapRemove

abbrev pub journal_kind : JournalOp → OpKind
journal_kind (journal.Create spans) = kind.JournalCreate
journal_kind journal.Tag = kind.JournalTag
journal_kind (journal.Append position frame) = kind.JournalAppend
journal_kind (journal.Read seq) = kind.JournalRead
journal_kind journal.Spans = kind.JournalSpans
journal_kind journal.Register = kind.JournalRegister
journal_kind (journal.Commit client seq) = kind.JournalCommit
journal_kind journal.Remove = kind.JournalRemove

abbrev pub kind_of : Op → OpKind
kind_of (op.Directory o) = directory_kind o
kind_of (op.Children o) = children_kind o
kind_of (op.BlockAdd instance) = kind.BlockAdd
kind_of (op.Header image o) = header_kind o
kind_of (op.Data image object o) = data_kind o
kind_of (op.Map image o) = map_kind o
kind_of (op.Journal image o) = journal_kind o
