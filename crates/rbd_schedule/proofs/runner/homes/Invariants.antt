use Rattle.std.proofs.Common.{◌≡◌, take}
use Rattle.rbd_schedule.specs.Playing.{homes_of}
use Rattle.rbd_schedule.proofs.runner.homes.Given as goal

abbrev pub invariant-loop-session : goal.invariant-loop-session
invariant-loop-session l = l.homes.items ≡ homes_of (take l.session-index l.sessions)
