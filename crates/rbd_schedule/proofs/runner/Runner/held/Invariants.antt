use Rattle.std.proofs.Common.{◌≡◌, ℕ, ◌<◌, ◌≤◌, ◌+◌, false, Some, length, slice_get}
use Rattle.rbd_world.specs.Seen.{seen}
use Rattle.rbd_schedule.specs.Schedule.{is_held}
use Rattle.rbd_schedule.proofs.runner.Runner.held.Given as goal

-- the slots so far were looked at, and nothing is told of the others
abbrev pub invariant-loop-k : goal.invariant-loop-k
invariant-loop-k l = record {
  count : length l.held ≡ 64;
  held : (j : ℕ) → j < l.k → slice_get l.held j ≡ Some (is_held l.fn.session (j + 1) (seen l.fn.self.world));
  rest : (j : ℕ) → l.k ≤ j → j < 64 → slice_get l.held j ≡ Some false;
}
