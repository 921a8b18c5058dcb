use Rattle.std.proofs.Common.{ℕ, ◌≡◌, ◌<◌, ◌≤◌, length, take}
use Rattle.rbd_pages.specs.Sheets.{bytes_at, count_at, in_use}
use Rattle.rbd_pages.specs.Paging.{Moved}
use Rattle.rbd_pages.proofs.pages.cut.Given as goal

-- what was dropped so far lies from `len` on
abbrev pub invariant-loop-pages : goal.invariant-loop-pages
invariant-loop-pages l = record {
  moved : Moved l.initial.arena l.initial.pages.items l.arena l.pages.items;
  front : take l.len l.pages.items ≡ take l.len l.initial.pages.items;
  kept : (page : ℕ) → 0 < count_at l.arena page → bytes_at l.arena page ≡ bytes_at l.initial.arena page;
  used : in_use l.arena ≤ in_use l.initial.arena;
  places : length l.arena ≡ length l.initial.arena;
}

abbrev pub decreases-loop-pages : goal.decreases-loop-pages
decreases-loop-pages l = length l.pages.items
