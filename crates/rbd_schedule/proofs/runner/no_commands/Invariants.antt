use Rattle.std.proofs.Common.{◌≡◌, length, All}
use Rattle.rbd_schedule.specs.Playing.{IsEmptyQueue}
use Rattle.rbd_schedule.proofs.runner.no_commands.Given as goal

-- as many queues so far, all without commands
abbrev pub invariant-loop-session : goal.invariant-loop-session
invariant-loop-session l = record {
  count : length l.queues.items ≡ l._session;
  empty : All IsEmptyQueue l.queues.items;
}
