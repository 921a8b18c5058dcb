-- Whatever list of events comes, the world behind it is sound.
use Rattle.std.proofs.Common.{List, [], ◌∷◌, sym, subst}
use Rattle.rbd_machine.specs.Plan.{Standing}
use Rattle.rbd_world.specs.declared.event.Call.{Call}
use Rattle.rbd_world.specs.Events.{AreCallsOf}
use Rattle.rbd_world.specs.Sound.{IsSoundWorld}
use Rattle.rbd_world.specs.World.{WorldView}
use Rattle.rbd_world.proofs.Steps.{steps_keep}

module _ {R : Type 0} (stands : R → Standing) where
  pub calls_keep : (calls : List Call) (old new : WorldView R) → IsSoundWorld stands old → AreCallsOf stands calls old new → IsSoundWorld stands new
  calls_keep [] old new sound same = subst (IsSoundWorld stands) (sym same) sound
  calls_keep (c ∷ calls) old new sound (next, (call, more)) =
      calls_keep calls next new (steps_keep stands c.event old next sound call.built call.step.1 call.sites call.clients) more
