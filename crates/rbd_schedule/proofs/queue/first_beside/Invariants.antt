use Rattle.std.proofs.Common.{◌≡◌, false, All, take}
use Rattle.rbd_world.specs.Seen.{seen}
use Rattle.rbd_world.specs.Step.{is_begun}
use Rattle.rbd_schedule.specs.Playing.{may_start_beside}
use Rattle.rbd_schedule.proofs.queue.first_beside.Given as goal

-- none so far stands beside the others and wasn't begun
abbrev pub invariant-loop-place : goal.invariant-loop-place
invariant-loop-place l = All (λ c. may_start_beside (λ line. is_begun line (seen l.world).history) c ≡ false) (take l.place l.commands)
