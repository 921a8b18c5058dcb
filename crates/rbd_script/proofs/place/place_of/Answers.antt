use Rattle.std.proofs.Common.{length, arith}
use Rattle.rbd_script.proofs.TokenLemmas.{place_at}
use Rattle.rbd_script.proofs.place.place_of.Goals as goal

pub returns-then-byte-wanted-clause-place : goal.returns-then-byte-wanted-clause-place
returns-then-byte-wanted-clause-place c =
    place_at c.args.wanted c.args.text.now c.loop-i.i (omega arith) c.loop-i.invariant (λ _. c.if-byte-wanted.true)

pub returns-clause-place : goal.returns-clause-place
returns-clause-place c =
    place_at c.args.wanted c.args.text.now (length c.args.text.now) (omega arith) (λ k h. c.loop-i.invariant k (omega arith)) (λ h. absurd (omega arith))
