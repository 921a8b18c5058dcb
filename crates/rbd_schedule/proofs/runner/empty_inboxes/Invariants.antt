use Rattle.std.proofs.Common.{◌≡◌, ℕ, [], slice_get}
use Rattle.rbd_schedule.specs.Playing.{numbers_in}
use Rattle.rbd_schedule.proofs.runner.empty_inboxes.Given as goal

-- all so far are empty
abbrev pub invariant-loop-session : goal.invariant-loop-session
invariant-loop-session l = (k : ℕ) → numbers_in (slice_get l.inboxes.items k) ≡ []
