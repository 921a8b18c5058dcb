use Rattle.std.proofs.Common.{◌≡◌, map}
use Rattle.std.specs.List.{range_with_len}
use Rattle.rbd_generate.specs.Generated.{create_line}
use Rattle.rbd_generate.proofs.script.creates.Given as goal

abbrev pub invariant-loop-before : goal.invariant-loop-before
invariant-loop-before l = l.lines ≡ map (create_line l.fn.load) (range_with_len 1 l.before)
