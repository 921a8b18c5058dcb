-- The clients of a sound world are counted, and the slots of one that is go from 1 to 64.
use Rattle.std.proofs.Common.{◌≡◌, ◌<◌, ◌≤◌, ◌⊎◌, inl, inr, ℕ, zero, suc, Some, None, sym, ◌∙◌, arith}
use Rattle.std.proofs.lemmas.Bool.{cases_lt}
use Rattle.std.proofs.lemmas.List.{get_or_past}
use Rattle.std.proofs.lemmas.Option.{none-some}
use Rattle.rbd_client.specs.Client.{ClientView}
use Rattle.rbd_client.specs.Sound.{IsSoundClient}
use Rattle.rbd_machine.specs.Plan.{Standing}
use Rattle.rbd_slots.specs.Session.{held_in}
use Rattle.rbd_slots.specs.declared.running.Occupant.{Occupant}
use Rattle.rbd_world.specs.Sound.{IsSoundWorld}
use Rattle.rbd_world.specs.World.{WorldView}
use Rattle.rbd_schedule.specs.Slots.{AreClientsCounted, IsCounted}

module _ {R : Type 0} (stands : R → Standing) where
  pub client_counted : (c : ClientView R) → IsSoundClient stands c → IsCounted c
  client_counted c sound = record {
    slots = sound.session.slots;
    zero = sound.session.zero;
    lowest = sound.session.lowest;
    states = sound.slots;
    free = sound.free;
    asked = sound.locks.order;
  }

  pub world_counted : (w : WorldView R) → IsSoundWorld stands w → AreClientsCounted w
  world_counted w sound session c is = client_counted c (sound.clients session c is).sound

pub counted_range : {R : Type 0} (c : ClientView R) → IsCounted c → (slot : ℕ) (o : Occupant R) → held_in slot c.session.slots ≡ Some o → (1 ≤ slot) × (slot ≤ 64)
counted_range c counted slot o is = (from slot is, to (cases_lt slot 65))
  where
    from : (k : ℕ) → held_in k c.session.slots ≡ Some o → 1 ≤ k
    from zero at = absurd (none-some o (sym counted.zero ∙ at))
    from (suc k) at = omega arith

    to : (slot < 65) ⊎ (65 ≤ slot) → slot ≤ 64
    to (inl less) = omega (arith, less)
    to (inr past) = absurd (none-some o (sym (get_or_past c.session.slots slot None (let len = counted.slots in omega (arith, len, past))) ∙ is))
