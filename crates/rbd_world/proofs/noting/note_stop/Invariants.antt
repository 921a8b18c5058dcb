use Rattle.std.proofs.Common.{◌≡◌, ◌+◌, ◌-◌, ◌≤◌, ◌∷◌, ◌++◌, drop, length, map}
use Rattle.std.specs.Vec.{vec_capacity, vec_len}
use Rattle.rbd_flat.specs.declared.entry.Entry.TheVariants as entry
use Rattle.rbd_world.proofs.noting.note_stop.Given as goal

-- with the lines that are left it is all of it, and there is room for them
abbrev pub invariant-loop-index : goal.invariant-loop-index
invariant-loop-index l =
    (l.history.items ++ map entry.Lost (drop l.index l.lost) ≡ l.fn.history.items ++ entry.Stop l.who.session ∷ map entry.Lost l.lost)
    × (vec_len l.history + (length l.lost - l.index) ≤ vec_capacity l.history)
