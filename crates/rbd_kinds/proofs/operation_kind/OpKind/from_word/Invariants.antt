use Rattle.std.proofs.Common.{◌≢◌, ℕ, ◌<◌, get_or}
use Rattle.rbd_kinds.specs.declared.operation_kind.OpKind.TheVariants.{DirFind}
use Rattle.rbd_kinds.specs.Operation.{op_word}
use Rattle.rbd_kinds.proofs.operation_kind.OpKind.from_word.Given as goal

-- none of the kinds before has the word
abbrev pub invariant-loop-kind : goal.invariant-loop-kind
invariant-loop-kind l = (n : ℕ) → n < l.kind-index → op_word (get_or l.kind-items n DirFind) ≢ l.fn.word
