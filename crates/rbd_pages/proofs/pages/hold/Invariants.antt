use Rattle.std.proofs.Common.{◌≡◌, ◌≤◌, [], length, take}
use Rattle.rbd_pages.specs.Sheets.{in_use}
use Rattle.rbd_pages.specs.Paging.{Moved}
use Rattle.rbd_pages.proofs.pages.hold.Given as goal

-- the pages that were counted once more so far
abbrev pub invariant-loop-k : goal.invariant-loop-k
invariant-loop-k l = record {
  moved : Moved l.initial.arena [] l.arena (take l.k l.pages);
  used : in_use l.arena ≤ in_use l.initial.arena;
  places : length l.arena ≡ length l.initial.arena;
}
