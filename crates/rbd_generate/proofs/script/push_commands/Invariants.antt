use Rattle.std.proofs.Common.{◌≡◌, ◌++◌, map}
use Rattle.std.specs.List.{range_with_len}
use Rattle.rbd_generate.specs.Generated.{command_line}
use Rattle.rbd_generate.proofs.script.push_commands.Given as goal

abbrev pub invariant-loop-at : goal.invariant-loop-at
invariant-loop-at l = l.lines ≡ l.initial.lines ++ map (command_line l.fn.load) (range_with_len 0 l.at)
