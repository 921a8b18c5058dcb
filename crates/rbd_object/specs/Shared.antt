-- Contents that share the sheaves and pages of one object.
use Rattle.std.specs.Prelude.{◌≡◌, ℕ, ◌+◌, ◌≤◌, nat_lt, if◌then◌else◌, List, [], ◌∷◌, ◌++◌, map, filter, min, max, Bool, Option, Some, None, option_map, find}
use Rattle.std.specs.List.{list_any}
use Rattle.rbd_pages.specs.Sheets.{count_at}
use Rattle.rbd_pages.specs.Paging.{occurs}
use Rattle.rbd_pages.specs.Sheaves.{Exchanged, Stock}
use Rattle.rbd_kinds.specs.declared.layout.Part.{Part}
use Rattle.rbd_object.specs.Kept.{Kept, is_listed}
use Rattle.rbd_pages.specs.Listed.{Listed, listed_bytes, IsContent, sheaves_touched, touched}

-- a version: a content, and the snapshots that it is kept for
pub record Stored : Type 0 where
  pub snaps : List ℕ
  pub content : Listed

abbrev pub sheaves_of : Option Listed → List ℕ
sheaves_of None = []
sheaves_of (Some c) = c.sheaves

abbrev pub IsHead : Stock → Option Listed → Type 0
IsHead stock None = Unit {0}
IsHead stock (Some c) = IsContent stock c

abbrev pub kept_in : Stock → Stored → Kept
kept_in stock v = record { snaps = v.snaps; bytes = listed_bytes stock v.content }

-- in how many places versions name a sheaf
abbrev pub named : (sheaf : ℕ) → List Stored → ℕ
named sheaf [] = 0
named sheaf (v ∷ versions) = occurs sheaf v.content.sheaves + named sheaf versions

abbrev pub AreContents : Stock → List Stored → Type 0
AreContents stock [] = Unit {0}
AreContents stock (v ∷ versions) = IsContent stock v.content × AreContents stock versions

-- Each sheaf's count is the number of places that name it, in the head and in the versions.
pub record AreShared (stock : Stock) (head : Option Listed) (versions : List Stored) : Type 0 where
  pub counts : (sheaf : ℕ) → count_at stock.sheaves sheaf ≡ occurs sheaf (sheaves_of head) + named sheaf versions
  pub head_is : IsHead stock head
  pub contents : AreContents stock versions

-- whether a version is kept for a live snapshot
abbrev pub is_live : (live : List ℕ) → Stored → Bool
is_live live v = list_any (is_listed live) v.snaps

-- a version without the snapshots that aren't live
abbrev pub live_stored : (live : List ℕ) → Stored → Stored
live_stored live v = record { snaps = filter (is_listed live) v.snaps; content = v.content }

-- the versions that are left by a trim
abbrev pub live_versions : (live : List ℕ) → List Stored → List Stored
live_versions live versions = map (live_stored live) (filter (is_live live) versions)

-- how often a version names a sheaf, unless it is kept for a live snapshot
abbrev pub dead_sheaves : (live : List ℕ) → (sheaf : ℕ) → Stored → ℕ
dead_sheaves live sheaf v = if is_live live v then 0 else occurs sheaf v.content.sheaves

-- in how many places versions name a sheaf that are kept for no live snapshot
abbrev pub dead_named : (live : List ℕ) → (sheaf : ℕ) → List Stored → ℕ
dead_named live sheaf [] = 0
dead_named live sheaf (v ∷ versions) = dead_sheaves live sheaf v + dead_named live sheaf versions

-- each place is counted
pub record AreNamed (stock : Stock) (versions : List Stored) : Type 0 where
  pub each : (sheaf : ℕ) → named sheaf versions ≤ count_at stock.sheaves sheaf

-- ---- a change of a head that may be kept

-- how many bytes a head has
abbrev pub len_of : Option Listed → ℕ
len_of None = 0
len_of (Some c) = c.len

abbrev pub bytes_of : Stock → Option Listed → Option (List ℕ)
bytes_of stock head = option_map (listed_bytes stock) head

-- A head was changed, and the old one kept where that was wanted.
pub record KeepsHead (wanted : Bool) (old : Stock) (head : Option Listed) (new : Stock)
    (after kept : Option Listed) : Type 0 where
  pub exchanged : Exchanged old (sheaves_of head) new (sheaves_of after ++ sheaves_of kept)
  pub head_is : IsHead new after
  pub kept_is : IsHead new kept
  pub bytes : bytes_of new kept ≡ (if wanted then bytes_of old head else None)

-- how many pages the parts of a write touch, each from the end of a head so far where that is
-- before it
abbrev pub written_touch : (len : ℕ) → List Part → ℕ
written_touch len [] = 0
written_touch len (p ∷ parts) = touched (min len p.offset) (p.offset + p.len) + written_touch
    (max len (p.offset + p.len)) parts

-- how many pages parts touch
abbrev pub zeroed_touch : List Part → ℕ
zeroed_touch [] = 0
zeroed_touch (p ∷ parts) = touched p.offset (p.offset + p.len) + zeroed_touch parts

-- how many sheaves the parts of a write touch, each from the end of a head so far where that is
-- before it
abbrev pub written_sheaves : (len : ℕ) → List Part → ℕ
written_sheaves len [] = 0
written_sheaves len (p ∷ parts) =
    sheaves_touched (min len p.offset) (p.offset + p.len) + written_sheaves (max len (p.offset + p.len)) parts

-- how many sheaves parts touch
abbrev pub zeroed_sheaves : List Part → ℕ
zeroed_sheaves [] = 0
zeroed_sheaves (p ∷ parts) = sheaves_touched p.offset (p.offset + p.len) + zeroed_sheaves parts

-- the content of the head (None) or of a snapshot
abbrev pub view_in : (head : Option Listed) → (seq : ℕ) → List Stored → Option ℕ → Option Listed
view_in head seq versions None = head
view_in head seq versions (Some snap) =
    if nat_lt seq snap then head else option_map (λ (v : Stored). v.content)
    (find (λ (v : Stored). is_listed v.snaps snap) versions)

-- a head that is there
abbrev pub begun_head : Option Listed → Option Listed
begun_head None = Some (record { sheaves = []; len = 0 })
begun_head (Some c) = Some c
