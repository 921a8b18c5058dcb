-- What the answers that an operation can give tell a request.
use Rattle.std.proofs.Common.{ℕ}
use Rattle.rbd_kinds.specs.declared.answer.Answer.{Answer}
use Rattle.rbd_kinds.specs.declared.answer.Answer.TheVariants as answer
use Rattle.rbd_kinds.specs.declared.header_op.HeaderOp.TheVariants as header
use Rattle.rbd_kinds.specs.declared.notice.NoticeKind.{NoticeKind}
use Rattle.rbd_kinds.specs.declared.operation.Op.TheVariants as op
use Rattle.rbd_machine.specs.Answers.{CanGive}
use Rattle.rbd_machine.specs.Steps.{TellsDone}
use Rattle.rbd_lock.specs.Steps.{lock_drop}
use Rattle.rbd_session.specs.Close.{unwatch, TellsDropped}

module _ (image : ℕ) where
  pub drop_tells : (a : Answer) → CanGive (lock_drop image) a → TellsDropped a
  drop_tells answer.Done can = tt
  drop_tells answer.Changed can = tt
  drop_tells answer.Absent can = tt
  drop_tells answer.Fenced can = tt
  drop_tells _ can = let no = can.word in cc

  pub notify_tells : (kind : NoticeKind) (a : Answer) → CanGive (op.Header image (header.Notify kind)) a → TellsDone a
  notify_tells kind answer.Done can = tt
  notify_tells kind answer.Absent can = tt
  notify_tells kind answer.Fenced can = tt
  notify_tells kind _ can = let no = can.word in cc

  pub unwatch_tells : (a : Answer) → CanGive (unwatch image) a → TellsDone a
  unwatch_tells answer.Done can = tt
  unwatch_tells answer.Absent can = tt
  unwatch_tells answer.Fenced can = tt
  unwatch_tells _ can = let no = can.word in cc
