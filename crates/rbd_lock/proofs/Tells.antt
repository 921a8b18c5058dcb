-- What the answers that an operation can give tell a way to a lock.
use Rattle.std.proofs.Common.{ℕ}
use Rattle.rbd_kinds.specs.declared.answer.Answer.{Answer}
use Rattle.rbd_kinds.specs.declared.answer.Answer.TheVariants as answer
use Rattle.rbd_kinds.specs.declared.id.Instance.{Instance}
use Rattle.rbd_machine.specs.Answers.{CanGive}
use Rattle.rbd_machine.specs.Steps.{TellsDone}
use Rattle.rbd_lock.specs.Acquire.{TellsTaken, TellsWatchers, TellsBroken}
use Rattle.rbd_lock.specs.Steps.{watch, lock_take, lock_break, watchers_get, block_add, request_lock}

module _ (image : ℕ) where
  pub watch_tells : (a : Answer) → CanGive (watch image) a → TellsDone a
  watch_tells answer.Done can = tt
  watch_tells answer.Absent can = tt
  watch_tells answer.Fenced can = tt
  watch_tells _ can = let no = can.word in cc

  pub take_tells : (a : Answer) → CanGive (lock_take image) a → TellsTaken a
  take_tells answer.Done can = tt
  take_tells (answer.Held owner) can = tt
  take_tells answer.Absent can = tt
  take_tells answer.Fenced can = tt
  take_tells _ can = let no = can.word in cc

  pub look_tells : (a : Answer) → CanGive (watchers_get image) a → TellsWatchers a
  look_tells (answer.Instances watchers) can = tt
  look_tells answer.Absent can = tt
  look_tells answer.Fenced can = tt
  look_tells _ can = let no = can.word in cc

  pub ask_tells : (a : Answer) → CanGive (request_lock image) a → TellsDone a
  ask_tells answer.Done can = tt
  ask_tells answer.Absent can = tt
  ask_tells answer.Fenced can = tt
  ask_tells _ can = let no = can.word in cc

  pub fence_tells : (owner : Instance) (a : Answer) → CanGive (block_add owner) a → TellsDone a
  fence_tells owner answer.Done can = tt
  fence_tells owner answer.Fenced can = tt
  fence_tells owner _ can = let no = can.word in cc

  pub break_tells : (owner : Instance) (a : Answer) → CanGive (lock_break image owner) a → TellsBroken a
  break_tells owner answer.Done can = tt
  break_tells owner answer.Changed can = tt
  break_tells owner answer.Absent can = tt
  break_tells owner answer.Fenced can = tt
  break_tells owner _ can = let no = can.word in cc
