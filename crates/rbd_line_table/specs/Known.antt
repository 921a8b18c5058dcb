-- What is known of lines, in pages.
use Rattle.std.specs.Prelude.{ℕ, ◌/◌, ◌%◌, ◌<◌, Bool, length, slice_get, Option, None, Some, is_some}
use Rattle.std.specs.declared.vec.Vec.{Vec}
use Rattle.rbd_line_table.specs.declared.line_map.LineMap.{LineMap}

-- A page has 4,096 places.
abbrev pub page_of : (line : ℕ) → ℕ
page_of line = line / 4096

abbrev pub place_on_page : (line : ℕ) → ℕ
place_on_page line = line % 4096

-- what stands at a place, where there is one
abbrev pub at_place : {T : Type 0} → Option (Option T) → Option T
at_place None = None
at_place (Some known) = known

-- what stands at a place of a page, where there is one
abbrev pub on_page : {T A : Type 0} → Option (Vec (Option T) A) → (place : ℕ) → Option T
on_page None place = None
on_page (Some page) place = at_place (slice_get page.items place)

-- what is known of a line
abbrev pub known_at : {T : Type 0} → LineMap T → (line : ℕ) → Option T
known_at m line = on_page (slice_get m.pages.items (page_of line)) (place_on_page line)

-- whether anything is known of a line
abbrev pub is_known : {T : Type 0} → LineMap T → (line : ℕ) → Bool
is_known m line = is_some (known_at m line)

-- how many places a page has, and 0 where there is none
abbrev pub places_on : {T A : Type 0} → Option (Vec (Option T) A) → ℕ
places_on None = 0
places_on (Some page) = length page.items

-- A line's page was made.
abbrev pub HasRoom : {T : Type 0} → LineMap T → (line : ℕ) → Type 0
HasRoom m line = place_on_page line < places_on (slice_get m.pages.items (page_of line))
