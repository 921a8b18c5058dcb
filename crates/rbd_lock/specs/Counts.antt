-- How many steps of which kind a way to a lock has.
use Rattle.std.specs.Prelude.{ℕ, ◌||◌, Bool, true, false, not}
use Rattle.rbd_kinds.specs.declared.answer.Answer.{Answer}
use Rattle.rbd_kinds.specs.declared.answer.Answer.TheVariants as answer
use Rattle.rbd_kinds.specs.declared.header_op.HeaderOp.TheVariants as header
use Rattle.rbd_kinds.specs.declared.operation.Op.{Op}
use Rattle.rbd_kinds.specs.declared.operation.Op.TheVariants as op
use Rattle.rbd_kinds.specs.OperationKind.{kind_of}
use Rattle.rbd_machine.specs.Path.{Answered}
use Rattle.rbd_lock.specs.Waiting.{asks_again}

abbrev pub watches_image : Op → Bool
watches_image (op.Header image header.Watch) = true
watches_image _ = false

abbrev pub is_lock_take : Op → Bool
is_lock_take (op.Header image header.LockTake) = true
is_lock_take _ = false

abbrev pub breaks : Op → Bool
breaks (op.Header image (header.LockBreak owner)) = true
breaks _ = false

-- the lock was taken
abbrev pub has_taken : Op → Answer → Bool
has_taken (op.Header image header.LockTake) answer.Done = true
has_taken _ _ = false

-- the owner was asked
abbrev pub has_asked : Op → Answer → Bool
has_asked (op.Header image (header.Notify kind)) answer.Done = true
has_asked _ _ = false

-- an owner was fenced
abbrev pub has_fenced : Op → Answer → Bool
has_fenced (op.BlockAdd owner) answer.Done = true
has_fenced _ _ = false

-- ---- of a step

abbrev pub is_watch : Answered → Bool
is_watch s = watches_image s.op

abbrev pub is_take_step : Answered → Bool
is_take_step s = is_lock_take s.op

abbrev pub is_break : Answered → Bool
is_break s = breaks s.op

abbrev pub is_taken : Answered → Bool
is_taken s = has_taken s.op s.answer

abbrev pub is_fence : Answered → Bool
is_fence s = has_fenced s.op s.answer

-- a round is over: its owner was asked, or fenced
abbrev pub is_round : Answered → Bool
is_round s = has_asked s.op s.answer || has_fenced s.op s.answer

-- whether a step doesn't ask again
abbrev pub is_counted : Answered → Bool
is_counted s = not (asks_again (kind_of s.op) s.answer)

-- an instance that doesn't watch yet has a watch to do
abbrev pub first_watch : (watched : Bool) → ℕ
first_watch true = 0
first_watch false = 1
