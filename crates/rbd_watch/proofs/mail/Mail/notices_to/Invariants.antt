use Rattle.std.proofs.Common.{◌≡◌, ◌+◌, ◌++◌, length, drop}
use Rattle.rbd_watch.specs.Posting.{notices}
use Rattle.rbd_watch.proofs.mail.Mail.notices_to.Given as goal

-- the notices so far and those for the receivers that are left are all
abbrev pub invariant-loop-to : goal.invariant-loop-to
invariant-loop-to l =
    l.made.items ++ notices (l.first + length l.made.items) l.site l.image l.from (drop l.to-index l.receivers) l.kind ≡ notices l.first l.site l.image l.from l.receivers l.kind
