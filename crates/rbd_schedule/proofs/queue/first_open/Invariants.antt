use Rattle.std.proofs.Common.{◌≡◌, true, All, take}
use Rattle.rbd_world.specs.Seen.{seen}
use Rattle.rbd_world.specs.Step.{is_begun}
use Rattle.rbd_schedule.specs.Playing.{has_line, is_over}
use Rattle.rbd_schedule.proofs.queue.first_open.Given as goal

-- all so far are over
abbrev pub invariant-loop-place : goal.invariant-loop-place
invariant-loop-place l = All (λ c. is_over (λ line. is_begun line (seen l.world).history) (λ line. has_line line l.ended) c ≡ true) (take l.place l.commands)
