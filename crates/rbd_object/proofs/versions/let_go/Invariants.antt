use Rattle.std.proofs.Common.{ℕ, ◌≡◌, ◌+◌, ◌<◌, ◌≤◌, drop}
use Rattle.rbd_pages.specs.Places.{NoneTaken}
use Rattle.rbd_pages.specs.Sheaves.{IsSame}
use Rattle.rbd_pages.specs.Sheets.{count_at, in_use}
use Rattle.rbd_object.specs.Shared.{AreNamed, dead_named}
use Rattle.rbd_object.proofs.versions.let_go.Given as goal

-- the versions that are left are still counted
abbrev pub invariant-loop-i : goal.invariant-loop-i
invariant-loop-i l = record {
  named : AreNamed l.sheaves (drop l.i l.versions.items);
  counts : (s : ℕ) → count_at l.sheaves.sheaves s + dead_named l.live s l.versions.items
      ≡ count_at l.initial.sheaves.sheaves s + dead_named l.live s (drop l.i l.versions.items);
  kept : (s : ℕ) → 0 < count_at l.sheaves.sheaves s → IsSame l.initial.sheaves l.sheaves s;
  used : in_use l.sheaves.sheets ≤ in_use l.initial.sheaves.sheets;
  places : NoneTaken l.initial.sheaves l.sheaves;
}
