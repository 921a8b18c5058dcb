-- What an object keeps, as its list of versions has it.
use Rattle.std.specs.Prelude.{◌≡◌, ℕ, List, [], ◌∷◌, Bool, true, false, filter, ◌==◌, IsTrue, Option, Some, None}
use Rattle.std.specs.List.{list_any, list_all}
use Rattle.std.specs.Ordering.{nat_cmp}
use Rattle.std.specs.FinMap as map

-- one version: bytes, and the snapshots that they are kept for
pub record Kept : Type 0 where
  pub snaps : List ℕ
  pub bytes : List ℕ

-- whether a list of snapshots has this one
abbrev pub is_listed : (snaps : List ℕ) (snap : ℕ) → Bool
is_listed snaps snap = list_any (λ s. s == snap) snaps

-- the map with these bytes at each of the snapshots
abbrev pub keep_each : (bytes : List ℕ) (snaps : List ℕ) → map.FinMap nat_cmp (List ℕ) → map.FinMap nat_cmp (List ℕ)
keep_each bytes [] kept = kept
keep_each bytes (snap ∷ snaps) kept = map.insert (keep_each bytes snaps kept) snap bytes

-- what a list of versions keeps for each snapshot, newest version first
abbrev pub kept_by : List Kept → map.FinMap nat_cmp (List ℕ)
kept_by [] = map.empty
kept_by (v ∷ versions) = keep_each v.bytes v.snaps (kept_by versions)

-- a version without the snapshots that aren't live
abbrev pub live_part : (live : List ℕ) → Kept → Kept
live_part live v = record { snaps = filter (is_listed live) v.snaps; bytes = v.bytes }

-- the version that keeps a head for these snapshots, if there are any and it isn't absent
abbrev pub new_version : (head : Option (List ℕ)) → (snaps : List ℕ) → Option Kept
new_version None snaps = None
new_version (Some bytes) [] = None
new_version (Some bytes) (snap ∷ snaps) = Some (record { snaps = snap ∷ snaps; bytes = bytes })

-- whether a version is kept for some snapshot
abbrev pub is_needed : Kept → Bool
is_needed v = has_some v.snaps where
  has_some : List ℕ → Bool
  has_some [] = false
  has_some (snap ∷ snaps) = true

abbrev pub AreUsed : List Kept → Type 0
AreUsed versions = IsTrue (list_all is_needed versions)

-- what a version is kept for, no older one is
abbrev pub AreNewest : List Kept → Type 0
AreNewest [] = Unit {0}
AreNewest (v ∷ versions) = ((snap : ℕ) → IsTrue (is_listed v.snaps snap) → map.get (kept_by versions) snap ≡ None)
    × AreNewest versions
