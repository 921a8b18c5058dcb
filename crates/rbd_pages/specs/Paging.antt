-- A content as a list of pages of an arena.
use Rattle.std.specs.Prelude.{◌≡◌, ◌≢◌, ℕ, ◌+◌, ◌-◌, ◌/◌, ◌%◌, ◌<◌, ◌≤◌, ◌==◌, nat_lt, if◌then◌else◌, List, [], ◌∷◌, length, slice_index}
use Rattle.rbd_parts.specs.Contents.{is_within}
use Rattle.rbd_pages.specs.Sheets.{Sheet, sheet_at, count_at, bytes_at, in_use}
use Rattle.rbd_pages.specs.declared.page.TheConstants.{PAGE}

-- how often a list of pages names a page
abbrev pub occurs : (page : ℕ) → List ℕ → ℕ
occurs page [] = 0
occurs page (p ∷ pages) = (if p == page then 1 else 0) + occurs page pages

-- how many pages it takes for so many bytes
abbrev pub pages_for : (len : ℕ) → ℕ
pages_for len = (len + (PAGE - 1)) / PAGE

-- the bytes of the page at place k of a list, none past the last page
abbrev pub bytes_on : List Sheet → (pages : List ℕ) → (k : ℕ) → List ℕ
bytes_on sheets pages k = if nat_lt k (length pages) then bytes_at sheets (slice_index pages k) else []

-- byte i of a list of pages: zero where there is none
abbrev pub byte_on_pages : List Sheet → (pages : List ℕ) → (i : ℕ) → ℕ
byte_on_pages sheets pages i = slice_index (bytes_on sheets pages (i / PAGE)) (i % PAGE)

-- each page of the list is counted
pub record AreCounted (sheets : List Sheet) (pages : List ℕ) : Type 0 where
  pub each : (page : ℕ) → occurs page pages ≤ count_at sheets page

-- the list names no page twice
pub record AreApart (pages : List ℕ) : Type 0 where
  pub each : (page : ℕ) → occurs page pages ≤ 1

-- the page at place k is this list's alone, and can take this byte
pub record IsPageReady (sheets : List Sheet) (pages : List ℕ) (k byte : ℕ) : Type 0 where
  pub there : k < length pages
  pub alone : count_at sheets (slice_index pages k) ≡ 1
  pub stored : byte ≢ 0 → length (bytes_at sheets (slice_index pages k)) ≡ PAGE

-- One list of pages was changed. Each count follows it, and pages that others name keep their
-- bytes.
pub record Moved (old : List Sheet) (pages : List ℕ) (new : List Sheet) (after : List ℕ) : Type 0 where
  pub counts : (page : ℕ) → count_at new page + occurs page pages ≡ count_at old page + occurs page after
  pub others : (page : ℕ) → occurs page pages < count_at old page → bytes_at new page ≡ bytes_at old page

-- Pages were copied or added, and each byte is the same. A page that is named once in all, here and
-- by some others, is so afterwards.
pub record Prepared (old : List Sheet) (pages : List ℕ) (new : List Sheet) (after : List ℕ) : Type 0 where
  pub moved : Moved old pages new after
  pub bytes : (k j : ℕ) → slice_index (bytes_on new after k) j ≡ slice_index (bytes_on old pages k) j
  pub apart : (page others : ℕ) → occurs page pages + others ≤ count_at old page → occurs page pages + others ≤ 1
      → occurs page after + others ≤ 1
  pub longer : length pages ≤ length after
  pub ready : (k byte : ℕ) → IsPageReady old pages k byte → IsPageReady new after k byte

-- Bytes of a list's own pages were changed: no count, no other page, and no number of places.
pub record IsChanged (pages : List ℕ) (old new : List Sheet) : Type 0 where
  pub counts : (page : ℕ) → count_at new page ≡ count_at old page
  pub others : (page : ℕ) → occurs page pages < count_at old page → bytes_at new page ≡ bytes_at old page
  pub used : in_use new ≡ in_use old
  pub places : length new ≡ length old
  pub ready : (k byte : ℕ) → IsPageReady old pages k byte → IsPageReady new pages k byte

-- bytes were written from byte `at` on
pub record IsWritten (pages : List ℕ) (at : ℕ) (bytes : List ℕ) (old new : List Sheet) : Type 0 where
  pub changed : IsChanged pages old new
  pub bytes_are : (i : ℕ) → byte_on_pages new pages i
      ≡ (if is_within at (length bytes) i then slice_index bytes (i - at) else byte_on_pages old pages i)
  pub rest : (page : ℕ) → ((j : ℕ) → j < length bytes → slice_index pages ((at + j) / PAGE) ≢ page)
      → sheet_at new page ≡ sheet_at old page

-- `len` bytes from byte `at` on were made zero
pub record IsZeroed (pages : List ℕ) (at len : ℕ) (old new : List Sheet) : Type 0 where
  pub changed : IsChanged pages old new
  pub bytes_are : (i : ℕ) → byte_on_pages new pages i ≡ (if is_within at len i then 0 else byte_on_pages old pages i)
  pub rest : (page : ℕ) → ((j : ℕ) → j < len → slice_index pages ((at + j) / PAGE) ≢ page)
      → sheet_at new page ≡ sheet_at old page
