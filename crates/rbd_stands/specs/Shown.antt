-- The byte that an object shows, its own or the parent's (Ceph: RBD layering). The parent's byte is
-- taken from the flat snapshot that the view names, one step away, and never through the parent's
-- objects.
use Rattle.std.specs.Prelude.{◌≡◌, ◌≢◌, ℕ, ◌<◌, ◌≤◌, nat_lt, if◌then◌else◌, Bool, IsTrue, List, length, slice_index, Option, Some, None}
use Rattle.std.specs.FinSet as finset
use Rattle.rbd_kinds.specs.declared.header.ParentLink.{ParentLink}
use Rattle.rbd_kinds.specs.declared.header.SnapStatus.TheVariants.{Unprotected}
use Rattle.rbd_flat.specs.Flat.{Flat, FlatSnap}
use Rattle.rbd_flat.specs.Laws.{snap_at, snap_byte}

-- the flat snapshots that images may rely on, by image and snapshot
abbrev pub Snapshots : Type 0
Snapshots = (image snap : ℕ) → Option FlatSnap

abbrev pub snapshots_of : Flat → Snapshots
snapshots_of f = snap_at f

-- byte x is below the overlap, of which there is none without a parent
abbrev pub IsInOverlap : Option ParentLink → (x : ℕ) → Type 0
IsInOverlap None x = ⊥
IsInOverlap (Some link) x = x < link.overlap

-- the byte at x as a child has it from its parent: zero past the overlap
abbrev pub inherited : Snapshots → Option ParentLink → (x : ℕ) → ℕ
inherited below None x = 0
inherited below (Some link) x = if nat_lt x link.overlap then snap_byte (below link.image link.snap) 0 x else 0

-- The byte at x of a view with this parent, where the object that holds x has this content at the
-- view, and x lies at `offset` in it. It is zero past the content's end.
abbrev pub shown : Snapshots → Option ParentLink → (content : Option (List ℕ)) → (offset x : ℕ) → ℕ
shown below parent None offset x = inherited below parent x
shown below parent (Some bytes) offset x = slice_index bytes offset

-- which snapshots a child is linked to, by image and snapshot
abbrev pub Links : Type 0
Links = (image snap : ℕ) → Bool

abbrev pub links_of : Flat → (child : ℕ) → Links
links_of f child image snap = finset.contains f.links (record { parent = image; snap = snap; child = child })

-- The parent has that snapshot, it is at least as long as the overlap, it isn't unprotected, and
-- the child is linked to it.
pub record HasSnapshot (below : Snapshots) (linked : Links) (link : ParentLink) : Type 0 where
  pub snap : FlatSnap
  pub is : below link.image link.snap ≡ Some snap
  pub long : link.overlap ≤ length snap.bytes
  pub kept : snap.status ≢ Unprotected
  pub child : IsTrue (linked link.image link.snap)

abbrev pub HasParent : Snapshots → Links → Option ParentLink → Type 0
HasParent below linked None = Unit {0}
HasParent below linked (Some link) = HasSnapshot below linked link
