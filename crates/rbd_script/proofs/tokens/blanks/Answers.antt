use Rattle.std.proofs.Common.{length, arith}
use Rattle.rbd_script.proofs.TokenLemmas.{blanks_at}
use Rattle.rbd_script.proofs.tokens.blanks.Goals as goal

pub returns-then-byte-ne32-clause-place : goal.returns-then-byte-ne32-clause-place
returns-then-byte-ne32-clause-place c =
    blanks_at c.args.line.now c.loop-i.i (omega arith) c.loop-i.invariant (λ _. c.if-byte-ne32.true)

pub returns-clause-place : goal.returns-clause-place
returns-clause-place c =
    blanks_at c.args.line.now (length c.args.line.now) (omega arith) (λ k h. c.loop-i.invariant k (omega arith)) (λ h. absurd (omega arith))
