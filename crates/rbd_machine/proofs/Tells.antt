-- What the answers that an operation can give tell a request.
use Rattle.std.proofs.Common.{ℕ, List}
use Rattle.rbd_kinds.specs.declared.answer.Answer.{Answer}
use Rattle.rbd_kinds.specs.declared.answer.Answer.TheVariants as answer
use Rattle.rbd_kinds.specs.declared.directory_op.DirectoryOp.TheVariants as directory
use Rattle.rbd_kinds.specs.declared.header_op.HeaderOp.TheVariants as header
use Rattle.rbd_kinds.specs.declared.operation.Op.TheVariants as op
use Rattle.rbd_machine.specs.Answers.{CanGive}
use Rattle.rbd_machine.specs.Steps.{TellsImage, TellsHeader}

pub find_tells : (name : List ℕ) (a : Answer) → CanGive (op.Directory (directory.Find name)) a → TellsImage a
find_tells name (answer.Id image) can = tt
find_tells name answer.Absent can = tt
find_tells name answer.Fenced can = tt
find_tells name _ can = let no = can.word in cc

pub look_tells : (image : ℕ) (a : Answer) → CanGive (op.Header image header.Get) a → TellsHeader a
look_tells image (answer.Header h) can = tt
look_tells image answer.Absent can = tt
look_tells image answer.Fenced can = tt
look_tells image _ can = let no = can.word in cc
