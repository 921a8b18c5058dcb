-- Places for pages and for sheaves: which of them are free, and how many there are.
use Rattle.std.specs.Prelude.{◌≡◌, ℕ, ◌+◌, ◌-◌, ◌^◌, ◌<◌, ◌≤◌, nat_lt, if◌then◌else◌, min, max, List, length, slice_index}
use Rattle.rbd_pages.specs.Paging.{occurs}
use Rattle.rbd_pages.specs.Sheaves.{Stock}
use Rattle.rbd_pages.specs.Sheets.{Sheet, count_at, in_use}

-- Each place is named or on the list of free ones, once, and no other is on the list. The list has
-- room for all places, so that what is left needs no memory.
pub record KnowsFree (sheets : List Sheet) (free : List ℕ) (capacity : ℕ) : Type 0 where
  pub each : (place : ℕ) → place < length sheets → occurs place free + min (count_at sheets place) 1 ≡ 1
  pub there : (place : ℕ) → 0 < occurs place free → place < length sheets
  pub all : length free + in_use sheets ≡ length sheets
  pub room : length sheets ≤ capacity
  pub few : length sheets < 2 ^ 32

-- There is one more place only where none was free.
abbrev pub TakesFreeFirst : (old new : List Sheet) → Type 0
TakesFreeFirst old new = in_use old < length old → length new ≡ length old

-- There are as many places as before or, where these are more, as many as are named now. So there are
-- never more than were named at one time, and exactly as many as were named when the most were.
abbrev pub KeepsMost : (old new : List Sheet) → Type 0
KeepsMost old new = length new ≡ max (length old) (in_use new)

-- how many sheaves a list needs to have the one at place m alone: none where it has
abbrev pub taken_at : List Sheet → (list : List ℕ) (m : ℕ) → ℕ
taken_at sheaves list m = if nat_lt m (length list) then min (count_at sheaves (slice_index list m) - 1) 1 else 1

-- At most so many pages and sheaves were taken, and some of them perhaps left again. There are no more
-- places than before, or than those that were named before and those that were taken.
pub record Grown (pages sheaves : ℕ) (old new : Stock) : Type 0 where
  pub page_places : length new.sheets ≤ max (length old.sheets) (in_use old.sheets + pages)
  pub sheaf_places : length new.sheaves ≤ max (length old.sheaves) (in_use old.sheaves + sheaves)
  pub pages_used : in_use new.sheets ≤ in_use old.sheets + pages
  pub sheaves_used : in_use new.sheaves ≤ in_use old.sheaves + sheaves

-- No page and no sheaf was taken, and there are as many places as before.
pub record NoneTaken (old new : Stock) : Type 0 where
  pub page_places : length new.sheets ≡ length old.sheets
  pub sheaf_places : length new.sheaves ≡ length old.sheaves
  pub pages_used : in_use new.sheets ≤ in_use old.sheets
  pub sheaves_used : in_use new.sheaves ≤ in_use old.sheaves
