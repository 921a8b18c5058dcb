-- A site's directory: which image a name has, and which id was drawn last.
use Rattle.std.specs.Prelude.{◌≡◌, ℕ, ◌+◌, ◌<◌, ◌≤◌, ◌^◌, ◌==◌, nat_le, not, Bool, ◌||◌, List, Option, None, Some, if◌then◌else◌}
use Rattle.std.specs.List.{filter, list_any}
use Rattle.std.specs.Ordering.{nat_cmp}
use Rattle.std.specs.Cmp.Lexicographic.{slice_cmp}
use Rattle.std.specs.declared.cmp.Ordering.{Ordering}
use Rattle.std.specs.Coded.{Coded, code_by, coded×, coded_ℕ, coded_list}
use Rattle.std.specs.FinMap as finmap
use Rattle.std.specs.Prelude.{refl}

-- names in the order of their bytes
abbrev pub name_cmp : List ℕ → List ℕ → Ordering
name_cmp = slice_cmp nat_cmp

-- the names that are held, with their ids, and the id that was drawn last, 0 for none
pub record Listing : Type 0 where
  pub names : finmap.FinMap name_cmp ℕ
  pub drawn : ℕ

abbrev pub nothing_listed : Listing
nothing_listed = record { names = finmap.empty; drawn = 0 }

-- the id of a name
abbrev pub id_of : Listing → List ℕ → Option ℕ
id_of d name = finmap.get d.names name

-- a name has the id
abbrev pub IsNamed : Listing → ℕ → Type 0
IsNamed d image = (name : List ℕ) × (id_of d name ≡ Some image)

-- whether a name has the id
abbrev pub holds_id : (image : ℕ) → Listing → Bool
holds_id image d = list_any (λ e. e.1 == image) (finmap.entries d.names)

-- 4,096 names are held, or the ids are used up
abbrev pub is_full : Listing → Bool
is_full d = nat_le 4096 (finmap.len d.names) || (d.drawn == 4294967295)

-- the directory with one more name, which has the next id
abbrev pub added : List ℕ → Listing → Listing
added name d = record { names = finmap.insert d.names name (d.drawn + 1); drawn = d.drawn + 1 }

-- an id, but for that of an image
abbrev pub but : ℕ → Option ℕ → Option ℕ
but image None = None
but image (Some held) = if held == image then None else Some held

-- without the names of an image
abbrev pub freed : ℕ → Listing → Listing
freed image d = record d { names = finmap.from_entries (filter (λ e. not (e.1 == image)) (finmap.entries d.names)) }

-- with the id of a name under another one
abbrev pub renamed : Option ℕ → (from to : List ℕ) → Listing → Listing
renamed None from to d = d
renamed (Some image) from to d = record d { names = finmap.insert (finmap.remove d.names from) to image }

-- Each id that is held was drawn, and no two names have one id. So an id that is drawn is above all
-- of them.
pub record IsSoundListing (d : Listing) : Type 0 where
  pub drawn : (name : List ℕ) (image : ℕ) → id_of d name ≡ Some image → (0 < image) × (image ≤ d.drawn)
  pub one_name : (a b : List ℕ) (image : ℕ) → id_of d a ≡ Some image → id_of d b ≡ Some image → a ≡ b
  pub few : finmap.len d.names ≤ 4096
  pub last : d.drawn < 2 ^ 32

-- the directory of these entries
abbrev pub listing_of : List (List ℕ × ℕ) → ℕ → Listing
listing_of entries drawn = record { names = finmap.from_entries entries; drawn = drawn }

-- a directory is told apart by its names and the last id
abbrev pub listing_code : Coded Listing
listing_code =
    code_by (finmap.FinMap name_cmp ℕ × ℕ) (coded× (finmap.code (coded_list coded_ℕ) coded_ℕ) coded_ℕ)
    (λ d. (d.names, d.drawn)) (λ p. record { names = p.0; drawn = p.1 }) (λ _. refl)
