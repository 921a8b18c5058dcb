use Rattle.std.proofs.Common.{ℕ, ◌<◌, ◌≤◌, IsSome}
use Rattle.rbd_slots.specs.Session.{held_in}
use Rattle.rbd_slots.proofs.slots.next_free.Given as goal

abbrev pub invariant-loop-slot : goal.invariant-loop-slot
invariant-loop-slot g l = (slot : ℕ) → l.from ≤ slot → slot < l.slot → IsSome (held_in slot l.slots)
