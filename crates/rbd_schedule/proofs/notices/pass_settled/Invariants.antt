use Rattle.std.proofs.Common.{◌≡◌, true, length}
use Rattle.rbd_watch.specs.Posting.{notice_numbered}
use Rattle.rbd_world.specs.Seen.{seen}
use Rattle.rbd_schedule.specs.Playing.{IsWithout, has_mark, has_number, is_dealt_with}
use Rattle.rbd_schedule.proofs.notices.pass_settled.Given as goal

-- all that left are settled
abbrev pub invariant-loop-number : goal.invariant-loop-number
invariant-loop-number l =
    IsWithout (λ number. is_dealt_with (λ n. has_mark n l.fn.heard) (λ n. has_number n l.fn.lost) l.fn.who number (notice_numbered number (seen l.fn.world).sites.mail) ≡ true) l.fn.inbox.items l.inbox.items

abbrev pub decreases-loop-number : goal.decreases-loop-number
decreases-loop-number l = length l.inbox.items
