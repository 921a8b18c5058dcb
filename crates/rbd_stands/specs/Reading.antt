-- What operations that read tell of the flat site.
use Rattle.std.specs.Prelude.{◌≡◌, ℕ, ◌+◌, ◌<◌, ◌≤◌, ◌==◌, nat_eq, if◌then◌else◌, List, [], ◌∷◌, ◌++◌, length, map, slice_index, Any, Option, Some, None, option_map}
use Rattle.std.specs.List.{list_any}
use Rattle.std.specs.List.Sorted.{IsStrictlyIncreasing}
use Rattle.std.specs.Cmp.Lexicographic.{pointwise}
use Rattle.rbd_kinds.specs.declared.header.HeaderView.{HeaderView}
use Rattle.rbd_kinds.specs.declared.header.ParentLink.{ParentLink}
use Rattle.rbd_kinds.specs.declared.layout.Part.{Part}
use Rattle.rbd_kinds.specs.Header.{snap_named}
use Rattle.rbd_header.specs.Header.{snap_in}
use Rattle.rbd_parts.specs.Contents.{window}
use Rattle.rbd_flat.specs.Flat.{Flat, FlatImage, FlatSnap, image_at, snap_in as flat_snap_in}
use Rattle.rbd_flat.specs.Read.{view_at}
use Rattle.rbd_stands.specs.Shown.{IsInOverlap, inherited, links_of, snapshots_of}
use Rattle.rbd_stands.specs.Image.{line_of_snap, line_of_flat}

-- the first flat snapshot with a name
abbrev pub flat_snap_named : List FlatSnap → (name : List ℕ) → Option FlatSnap
flat_snap_named [] name = None
flat_snap_named (s ∷ snaps) name = if pointwise nat_eq s.name name then Some s else flat_snap_named snaps name

-- the header tells the flat image: its size, its role and its snapshots, also by name and by id
pub record IsToldBy (h : HeaderView) (i : FlatImage) : Type 0 where
  pub size : length i.bytes ≡ h.size
  pub role : i.role ≡ h.role
  pub snaps : map line_of_flat i.snaps ≡ map line_of_snap h.snaps
  pub by_name : (name : List ℕ) → option_map line_of_flat (flat_snap_named i.snaps name) ≡ option_map line_of_snap
      (snap_named h.snaps name)
  pub by_id : (t : ℕ) → option_map line_of_flat (flat_snap_in i.snaps t) ≡ option_map line_of_snap (snap_in h.snaps t)
  pub snap_sizes : (t : ℕ) → option_map (λ s. length s.bytes) (flat_snap_in i.snaps t) ≡ option_map (λ s. s.size)
      (snap_in h.snaps t)

abbrev pub TellsFlatImage : HeaderView → Option FlatImage → Type 0
TellsFlatImage h None = ⊥
TellsFlatImage h (Some i) = IsToldBy h i

-- the flat bytes at the parts, one part after another
abbrev pub bytes_at_parts : List Part → (bytes : List ℕ) → List ℕ
bytes_at_parts [] bytes = []
bytes_at_parts (p ∷ parts) bytes = window bytes p.at p.len ++ bytes_at_parts parts bytes

-- an image byte is one of the parts'
abbrev pub IsAt : List Part → (x : ℕ) → Type 0
IsAt parts x = Any (λ p. (p.at ≤ x) × (x < p.at + p.len)) parts

-- the bytes are those of the flat image's view at the parts
pub record AreFlatBytes (f : Flat) (image : ℕ) (v : Option ℕ) (parts : List Part) (bytes : List ℕ) : Type 0 where
  pub flat : List ℕ
  pub is : view_at (image_at f image) v ≡ Some flat
  pub same : bytes ≡ bytes_at_parts parts flat

-- The flat image's view has at the parts what it inherits of its parent, and zeros outside the
-- overlap.
pub record AreInherited (f : Flat) (image : ℕ) (v : Option ℕ) (parent : Option ParentLink)
    (parts : List Part) : Type 0 where
  pub flat : List ℕ
  pub is : view_at (image_at f image) v ≡ Some flat
  pub covered : (x : ℕ) → IsAt parts x → IsInOverlap parent x → slice_index flat x ≡ inherited (snapshots_of f) parent x
  pub zeros : (x : ℕ) → IsAt parts x → (IsInOverlap parent x → ⊥) → slice_index flat x ≡ 0

-- the ids are those of the children that the flat site links to a snapshot, each once, ascending
pub record AreLinkedTo (f : Flat) (parent snap : ℕ) (ids : List ℕ) : Type 0 where
  pub each : (child : ℕ) → list_any (λ id. id == child) ids ≡ links_of f child parent snap
  pub ascending : IsStrictlyIncreasing ids
