use Rattle.std.proofs.Common.{ℕ, ◌≡◌, ◌<◌, ◌≤◌, drop, length}
use Rattle.rbd_pages.specs.Sheets.{bytes_at, count_at, in_use}
use Rattle.rbd_pages.specs.Paging.{Moved}
use Rattle.rbd_pages.proofs.pages.let_go.Given as goal

-- the pages that are left
abbrev pub invariant-loop-page : goal.invariant-loop-page
invariant-loop-page l = record {
  moved : Moved l.initial.arena l.pages l.arena (drop l.page-index l.pages);
  kept : (page : ℕ) → 0 < count_at l.arena page → bytes_at l.arena page ≡ bytes_at l.initial.arena page;
  used : in_use l.arena ≤ in_use l.initial.arena;
  places : length l.arena ≡ length l.initial.arena;
}
