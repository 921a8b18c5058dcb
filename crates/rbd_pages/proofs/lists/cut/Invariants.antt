use Rattle.std.proofs.Common.{ℕ, ◌≡◌, ◌<◌, ◌≤◌, length, take}
use Rattle.rbd_pages.specs.Paging.{Moved}
use Rattle.rbd_pages.specs.Places.{NoneTaken}
use Rattle.rbd_pages.specs.Sheaves.{IsSame}
use Rattle.rbd_pages.specs.Sheets.{count_at, in_use}
use Rattle.rbd_pages.proofs.lists.cut.Given as goal

-- what was dropped so far lies from `len` on
abbrev pub invariant-loop-list : goal.invariant-loop-list
invariant-loop-list l = record {
  moved : Moved l.initial.sheaves.sheaves l.initial.list.items l.sheaves.sheaves l.list.items;
  front : take l.len l.list.items ≡ take l.len l.initial.list.items;
  kept : (s : ℕ) → 0 < count_at l.sheaves.sheaves s → IsSame l.initial.sheaves l.sheaves s;
  used : in_use l.sheaves.sheets ≤ in_use l.initial.sheaves.sheets;
  places : NoneTaken l.initial.sheaves l.sheaves;
}

abbrev pub decreases-loop-list : goal.decreases-loop-list
decreases-loop-list l = length l.list.items
