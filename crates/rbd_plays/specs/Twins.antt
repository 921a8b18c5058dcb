-- Worlds that can't be told apart.
use Rattle.rbd_machine.specs.Plan.{Standing}
use Rattle.rbd_world.specs.Step.{IsUndone}
use Rattle.rbd_world.specs.World.{WorldView}

-- Two worlds that can't be told apart: the one is as the other, with the same sites, mail, history
-- and calls, and each session stands alike in both, whatever its client is ready for.
abbrev pub AreTwins : {R : Type 0} → (stands : R → Standing) → (v w : WorldView R) → Type 0
AreTwins stands v w = IsUndone stands v w
