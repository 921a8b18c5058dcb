use Rattle.std.proofs.Common.{ℕ, ◌≤◌, [], take}
use Rattle.rbd_pages.specs.Paging.{Moved}
use Rattle.rbd_pages.specs.Places.{NoneTaken}
use Rattle.rbd_pages.specs.Sheaves.{IsSame}
use Rattle.rbd_pages.specs.Sheets.{in_use}
use Rattle.rbd_pages.proofs.lists.hold.Given as goal

-- the sheaves that were counted once more so far
abbrev pub invariant-loop-k : goal.invariant-loop-k
invariant-loop-k l = record {
  moved : Moved l.initial.sheaves.sheaves [] l.sheaves.sheaves (take l.k l.list);
  all : (s : ℕ) → IsSame l.initial.sheaves l.sheaves s;
  used : in_use l.sheaves.sheets ≤ in_use l.initial.sheaves.sheets;
  places : NoneTaken l.initial.sheaves l.sheaves;
}
