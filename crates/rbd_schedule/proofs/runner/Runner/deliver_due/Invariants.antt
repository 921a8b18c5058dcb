use Rattle.std.proofs.Common.{◌≡◌, ℕ, ◌+◌, ◌-◌, ◌≤◌}
use Rattle.rbd_client.specs.Seen.{as_is}
use Rattle.rbd_world.specs.Seen.{seen}
use Rattle.rbd_schedule.specs.Deeds.{Deeds}
use Rattle.rbd_schedule.specs.Notices.{is_notice_due}
use Rattle.rbd_schedule.specs.Playing.{RunnerGoesOn, given_to, lost_in}
use Rattle.rbd_schedule.specs.Schedule.{DeliversWhere}
use Rattle.rbd_schedule.proofs.runner.Runner.deliver_due.Given as goal

-- the notices so far were delivered where they were due at first, and of the others the same are
-- due
abbrev pub invariant-loop-number : goal.invariant-loop-number
invariant-loop-number l = record {
  goes : RunnerGoesOn l.fn.self l.self;
  notices : Deeds (λ k. DeliversWhere as_is (given_to l.fn.self) (is_notice_due (lost_in l.fn.self) l.fn.session (k + 1) (seen l.fn.self.world)) (k + 1)) l.told (seen l.fn.self.world) (seen l.self.world);
  due : (k : ℕ) → l.told ≤ k → is_notice_due (lost_in l.fn.self) l.fn.session (k + 1) (seen l.self.world) ≡ is_notice_due (lost_in l.fn.self) l.fn.session (k + 1) (seen l.fn.self.world);
  most : l.told ≤ l.all;
}

-- each is one of those behind the one before
abbrev pub decreases-loop-number : goal.decreases-loop-number
decreases-loop-number l = l.all - l.told
