use Rattle.std.proofs.Common.{◌≡◌, map}
use Rattle.std.specs.List.{range_with_len}
use Rattle.rbd_generate.specs.Generated.{client_of}
use Rattle.rbd_generate.proofs.script.clients.Given as goal

abbrev pub invariant-loop-before : goal.invariant-loop-before
invariant-loop-before l = l.sessions ≡ map client_of (range_with_len 1 l.before)
