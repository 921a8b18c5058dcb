-- The steps of a list of events.
use Rattle.std.specs.Prelude.{◌≡◌, ℕ, List, [], ◌∷◌}
use Rattle.rbd_machine.specs.Plan.{Standing}
use Rattle.rbd_world.specs.declared.event.Call.{Call}
use Rattle.rbd_world.specs.Step.{DoesAtSites, IsBuiltEvent, IsSoundIf, IsWorldStep, happening}
use Rattle.rbd_world.specs.World.{WorldView, client_in}

-- An event with its outcome: a step of the world, as each call of `step` is one. The sites' records
-- follow their logs, and each client behind it is sound, since its own type says so.
pub record IsCallOf {R : Type 0} (stands : R → Standing) (c : Call) (old new : WorldView R) : Type 0 where
  pub built : IsBuiltEvent c.event
  pub step : IsWorldStep stands c.event old c.outcome new
  pub sites : DoesAtSites (happening stands c.event old) old.sites new.sites
  pub clients : (session : ℕ) → IsSoundIf stands (client_in session new.lives)

-- These calls were made one after another.
abbrev pub AreCallsOf : {R : Type 0} → (stands : R → Standing) → List Call → (old new : WorldView R) → Type 0
AreCallsOf stands [] old new = new ≡ old
AreCallsOf {R} stands (c ∷ calls) old new = (next : WorldView R)
    × (IsCallOf stands c old next × AreCallsOf stands calls next new)
