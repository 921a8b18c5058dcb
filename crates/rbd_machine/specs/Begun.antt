-- What comes of making a request.
use Rattle.std.specs.Prelude.{◌≡◌}
use Rattle.rbd_machine.specs.declared.request.Begun.{Begun}
use Rattle.rbd_machine.specs.declared.request.Begun.TheVariants as begun
use Rattle.rbd_machine.specs.Plan.{Standing, IsAsking}
use Rattle.rbd_machine.specs.Steps.{refused}

-- The request is refused where each request of this work has ended so; or it stands where such a
-- request begins, at an operation.
abbrev pub IsBegun : {R : Type 0} → (stands_for : Standing → Type 0) → (stands : R → Standing) → Begun R → Type 0
IsBegun stands_for stands (begun.Refused refusal) = (s : Standing) → stands_for s → s.plan ≡ refused refusal
IsBegun stands_for stands (begun.Asks request) = stands_for (stands request) × IsAsking (stands request).plan
