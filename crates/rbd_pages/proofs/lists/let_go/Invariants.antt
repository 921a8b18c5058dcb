use Rattle.std.proofs.Common.{ℕ, ◌<◌, ◌≤◌, drop}
use Rattle.rbd_pages.specs.Paging.{Moved}
use Rattle.rbd_pages.specs.Places.{NoneTaken}
use Rattle.rbd_pages.specs.Sheaves.{IsSame}
use Rattle.rbd_pages.specs.Sheets.{count_at, in_use}
use Rattle.rbd_pages.proofs.lists.let_go.Given as goal

-- the sheaves that are left
abbrev pub invariant-loop-sheaf : goal.invariant-loop-sheaf
invariant-loop-sheaf l = record {
  moved : Moved l.initial.sheaves.sheaves l.list l.sheaves.sheaves (drop l.sheaf-index l.list);
  kept : (s : ℕ) → 0 < count_at l.sheaves.sheaves s → IsSame l.initial.sheaves l.sheaves s;
  used : in_use l.sheaves.sheets ≤ in_use l.initial.sheaves.sheets;
  places : NoneTaken l.initial.sheaves l.sheaves;
}
