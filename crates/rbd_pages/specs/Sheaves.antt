-- Sheaves of pages, as contracts see them.
use Rattle.std.specs.Prelude.{◌≡◌, ℕ, ◌+◌, ◌-◌, ◌/◌, ◌%◌, ◌<◌, ◌≤◌, nat_lt, if◌then◌else◌, List, [], ◌∷◌, ◌++◌, length, slice_index}
use Rattle.rbd_pages.specs.Sheets.{Sheet, count_at, bytes_at}
use Rattle.rbd_pages.specs.Paging.{occurs, bytes_on, AreApart, IsPageReady}
use Rattle.rbd_pages.specs.declared.page.TheConstants.{PAGE}
use Rattle.rbd_pages.specs.declared.sheaf.TheConstants.{SHEAF}

-- The sheaves that contents share, each with its pages in place of bytes, and the pages that
-- sheaves share.
pub record Stock : Type 0 where
  pub sheaves : List Sheet
  pub sheets : List Sheet

-- how many sheaves it takes for so many pages
abbrev pub sheaves_for : (pages : ℕ) → ℕ
sheaves_for pages = (pages + (SHEAF - 1)) / SHEAF

-- in how many sheaves the pages from place `first` up to `end` are
abbrev pub sheaves_between : (first end : ℕ) → ℕ
sheaves_between first end = if nat_lt first end then sheaves_for end - first / SHEAF else 0

-- the pages of a list of sheaves, in order
abbrev pub pages_in : List Sheet → (list : List ℕ) → List ℕ
pages_in sheaves [] = []
pages_in sheaves (s ∷ list) = bytes_at sheaves s ++ pages_in sheaves list

-- in how many places sheaves name a page
abbrev pub named_in : (page : ℕ) → List Sheet → ℕ
named_in page [] = 0
named_in page (s ∷ sheaves) = occurs page s.bytes + named_in page sheaves

-- Each page's count is the number of places that name it in sheaves. A free sheaf has no page.
pub record AreStocked (stock : Stock) : Type 0 where
  pub counts : (page : ℕ) → count_at stock.sheets page ≡ named_in page stock.sheaves
  pub free : (s : ℕ) → count_at stock.sheaves s ≡ 0 → bytes_at stock.sheaves s ≡ []

-- each sheaf of the list but the last is full
pub record AreFull (sheaves : List Sheet) (list : List ℕ) : Type 0 where
  pub full : (m : ℕ) → m + 1 < length list → length (bytes_at sheaves (slice_index list m)) ≡ SHEAF
  pub last : (m : ℕ) → m < length list → length (bytes_at sheaves (slice_index list m)) ≤ SHEAF

-- a sheaf has the same pages, and each the same bytes
pub record IsSame (old new : Stock) (s : ℕ) : Type 0 where
  pub pages : bytes_at new.sheaves s ≡ bytes_at old.sheaves s
  pub bytes : (page : ℕ) → 0 < occurs page (bytes_at old.sheaves s)
      → bytes_at new.sheets page ≡ bytes_at old.sheets page

-- One list of sheaves became another. Each count follows it, and sheaves that others name are the
-- same.
pub record Exchanged (old : Stock) (list : List ℕ) (new : Stock) (after : List ℕ) : Type 0 where
  pub counts : (s : ℕ) → count_at new.sheaves s + occurs s list ≡ count_at old.sheaves s + occurs s after
  pub others : (s : ℕ) → occurs s list < count_at old.sheaves s → IsSame old new s

-- the page at place k is this list's alone, and so is its sheaf, and it can take this byte
pub record IsOwnPage (stock : Stock) (list : List ℕ) (k byte : ℕ) : Type 0 where
  pub sheaf : count_at stock.sheaves (slice_index list (k / SHEAF)) ≡ 1
  pub page : IsPageReady stock.sheets (pages_in stock.sheaves list) k byte

-- `len` bytes from byte `at` on lie on one page, which can take them as it is
pub record IsOnOwn (stock : Stock) (list : List ℕ) (at len : ℕ) : Type 0 where
  pub some : 0 < len
  pub fits : at % PAGE + len ≤ PAGE
  pub own : (byte : ℕ) → IsOwnPage stock list (at / PAGE) byte

-- Sheaves and pages were copied or added, and each byte is the same.
pub record ArePagesPrepared (old : Stock) (list : List ℕ) (new : Stock) (after : List ℕ) : Type 0 where
  pub exchanged : Exchanged old list new after
  pub bytes : (k j : ℕ) → slice_index (bytes_on new.sheets (pages_in new.sheaves after) k) j
      ≡ slice_index (bytes_on old.sheets (pages_in old.sheaves list) k) j
  pub apart : AreApart (pages_in new.sheaves after)
  pub full : AreFull new.sheaves after
  pub more : length list ≤ length after
  pub longer : length (pages_in old.sheaves list) ≤ length (pages_in new.sheaves after)
  pub own : (k byte : ℕ) → IsOwnPage old list k byte → IsOwnPage new after k byte
