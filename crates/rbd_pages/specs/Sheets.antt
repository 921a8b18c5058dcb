-- The pages of an arena, as contracts see them.
use Rattle.std.specs.Prelude.{◌≡◌, ◌≢◌, ℕ, ◌+◌, ◌-◌, nat_lt, min, if◌then◌else◌, List, [], ◌∷◌, slice_index_or}

-- how many places name a page, and its bytes: none for a page of zeros
pub record Sheet : Type 0 where
  pub count : ℕ
  pub bytes : List ℕ

abbrev pub free_sheet : Sheet
free_sheet = record { count = 0; bytes = [] }

-- the page with this index, past the last one a free page
abbrev pub sheet_at : List Sheet → ℕ → Sheet
sheet_at sheets i = slice_index_or sheets i free_sheet

abbrev pub count_at : List Sheet → ℕ → ℕ
count_at sheets i = (sheet_at sheets i).count

abbrev pub bytes_at : List Sheet → ℕ → List ℕ
bytes_at sheets i = (sheet_at sheets i).bytes

-- how many pages have a count above 0
abbrev pub in_use : List Sheet → ℕ
in_use [] = 0
in_use (s ∷ sheets) = min s.count 1 + in_use sheets

-- a page that one place less names: without its bytes where that was the last one
abbrev pub released : Sheet → Sheet
released s = record { count = s.count - 1; bytes = if nat_lt 1 s.count then s.bytes else [] }

-- only the page with this index was changed
pub record Changed (i : ℕ) (old new : List Sheet) : Type 0 where
  pub others : (j : ℕ) → j ≢ i → sheet_at new j ≡ sheet_at old j
  pub used : in_use new + min (count_at old i) 1 ≡ in_use old + min (count_at new i) 1
