use Rattle.std.proofs.Common.{◌≢◌, arith}
use Rattle.rbd_kinds.specs.Operation.{op_word}
use Rattle.rbd_kinds.proofs.EachKind.{of_each}
use Rattle.rbd_kinds.proofs.operation_kind.OpKind.from_word.Goals as goal

pub returns-clause-none : goal.returns-clause-none
returns-clause-none c e = of_each (λ kind. op_word kind ≢ c.args.word.now) (λ n below. c.loop-kind.invariant n (omega arith))
