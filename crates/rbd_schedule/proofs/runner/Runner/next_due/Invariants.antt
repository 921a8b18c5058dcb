use Rattle.std.proofs.Common.{◌≡◌, ℕ, ◌+◌, ◌<◌, ◌≤◌, false}
use Rattle.rbd_world.specs.Seen.{seen}
use Rattle.rbd_schedule.specs.Notices.{is_notice_due}
use Rattle.rbd_schedule.specs.Playing.{lost_in}
use Rattle.rbd_schedule.proofs.runner.Runner.next_due.Given as goal

-- none that was looked at is due
abbrev pub invariant-loop-k : goal.invariant-loop-k
invariant-loop-k l = record {
  least : l.fn.told ≤ l.k;
  none : (k : ℕ) → l.fn.told ≤ k → k < l.k → is_notice_due (lost_in l.fn.self) l.fn.session (k + 1) (seen l.fn.self.world) ≡ false;
}
