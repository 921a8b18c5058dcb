use Rattle.std.proofs.Common.{◌≡◌, ◌++◌, take}
use Rattle.rbd_text.specs.Operations.{log_text}
use Rattle.rbd_text.proofs.operations.push_log.Given as goal

abbrev pub invariant-loop-done : goal.invariant-loop-done
invariant-loop-done l = l.text.items ≡ l.initial.text.items ++ log_text l.sessions l.site (take l.done-index l.log)
