-- What the answers that an operation can give tell a request.
use Rattle.std.proofs.Common.{ℕ, List}
use Rattle.rbd_kinds.specs.declared.answer.Answer.{Answer}
use Rattle.rbd_kinds.specs.declared.answer.Answer.TheVariants as answer
use Rattle.rbd_kinds.specs.declared.directory_op.DirectoryOp.TheVariants as directory
use Rattle.rbd_kinds.specs.declared.header.HeaderView.{HeaderView}
use Rattle.rbd_kinds.specs.declared.header_op.HeaderOp.TheVariants as header
use Rattle.rbd_kinds.specs.declared.map_op.MapOp.TheVariants as states
use Rattle.rbd_kinds.specs.declared.operation.Op.TheVariants as op
use Rattle.rbd_machine.specs.Answers.{CanGive}
use Rattle.rbd_machine.specs.Steps.{TellsDone, TellsBits}
use Rattle.rbd_image.specs.Create.{TellsDrawn}
use Rattle.rbd_image.specs.Listing.{TellsNames, TellsRenamed}
use Rattle.rbd_image.specs.Remove.{TellsWatchers}
use Rattle.std.proofs.Common.{ℕ, None}

pub draw_tells : (name : List ℕ) (a : Answer) → CanGive (op.Directory (directory.Add name)) a → TellsDrawn a
draw_tells name (answer.Id image) can = tt
draw_tells name answer.Exists can = tt
draw_tells name answer.Full can = tt
draw_tells name answer.Fenced can = tt
draw_tells name _ can = let no = can.word in cc

pub make_tells : (image : ℕ) (h : HeaderView) (a : Answer) → CanGive (op.Header image (header.Create h)) a → TellsDone a
make_tells image h answer.Done can = tt
make_tells image h answer.Fenced can = tt
make_tells image h _ can = let no = can.word in cc

pub list_tells : (a : Answer) → CanGive (op.Directory directory.List) a → TellsNames a
list_tells (answer.Names names) can = tt
list_tells answer.Fenced can = tt
list_tells _ can = let no = can.word in cc

pub rename_tells : (from to : List ℕ) (a : Answer) → CanGive (op.Directory (directory.Rename from to)) a → TellsRenamed a
rename_tells from to answer.Done can = tt
rename_tells from to answer.Exists can = tt
rename_tells from to answer.Absent can = tt
rename_tells from to answer.Fenced can = tt
rename_tells from to _ can = let no = can.word in cc

pub map_tells : (image count : ℕ) (a : Answer) → CanGive (op.Map image (states.Resize count)) a → TellsDone a
map_tells image count answer.Done can = tt
map_tells image count answer.Fenced can = tt
map_tells image count _ can = let no = can.word in cc

pub states_tell : (image : ℕ) (a : Answer) → CanGive (op.Map image (states.Get None)) a → TellsBits a
states_tell image (answer.Bits bits) can = tt
states_tell image answer.Absent can = tt
states_tell image answer.Fenced can = tt
states_tell image _ can = let no = can.word in cc

pub watchers_tell : (image : ℕ) (a : Answer) → CanGive (op.Header image header.WatchersGet) a → TellsWatchers a
watchers_tell image (answer.Instances watchers) can = tt
watchers_tell image answer.Absent can = tt
watchers_tell image answer.Fenced can = tt
watchers_tell image _ can = let no = can.word in cc
