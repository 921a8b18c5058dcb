use Rattle.std.proofs.Common.{◌++◌}
use Rattle.rbd_registry.specs.Children.{AreChildren}
use Rattle.rbd_registry.proofs.Entries.{front}
use Rattle.rbd_registry.proofs.children.Children.of.Given as goal

-- the ids so far and those at the front of what is left are all
abbrev pub invariant-loop-entry : goal.invariant-loop-entry
invariant-loop-entry l = AreChildren l.self l.parent l.snap (l.ids ++ front l.parent l.snap l.entry-iterator)
