-- What the part of a change wants.
use Rattle.std.specs.Prelude.{◌≡◌}
use Rattle.rbd_machine.specs.Plan.{Plan, Ask}
use Rattle.rbd_machine.specs.declared.reason.Reason.TheVariants as reason

-- an operation that is a step of the request's own
abbrev pub AsksByItself : Plan → Type 0
AsksByItself (Ask site why op next) = why ≡ reason.Own
AsksByItself _ = ⊥
