use Rattle.std.proofs.Common.{◌∙◌}
use Rattle.rbd_layout.proofs.Powers.{power_test}
use Rattle.rbd_layout.proofs.shape.is_power_within.Goals as goal

pub returns : goal.returns
returns c = (
  (λ yes. ((power_test c.args.size).0 (rw c.is_power_of_two.ensures at yes), c.if-size-least.false, c.if-size-most.false)),
  (λ facts. c.is_power_of_two.ensures ∙ (power_test c.args.size).1 facts.0),
)
