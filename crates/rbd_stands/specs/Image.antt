-- When the header and the objects of an image stand for a flat image.
use Rattle.std.specs.Prelude.{◌≡◌, ℕ, ◌<◌, ◌≤◌, List, [], length, map, slice_index, Option, Some, None, unwrap_or}
use Rattle.rbd_kinds.specs.declared.header.HeaderView.{HeaderView}
use Rattle.rbd_kinds.specs.declared.header.SnapStatus.{SnapStatus}
use Rattle.rbd_kinds.specs.declared.header.SnapView.{SnapView}
use Rattle.rbd_kinds.specs.Form.{IsOverlapWithin}
use Rattle.rbd_kinds.specs.Striping.{IsLayout, byte_at, object_of, offset_of}
use Rattle.rbd_object.specs.Mapped.{Mapped, versioned, mapped_blank}
use Rattle.rbd_object.specs.Versioned.{IsTidy, view}
use Rattle.rbd_flat.specs.Flat.{FlatImage, FlatSnap}
use Rattle.rbd_stands.specs.View.{Shape, EachView, flat_bytes}
use Rattle.rbd_stands.specs.Shown.{Snapshots, Links, HasParent, IsInOverlap, inherited, shown}

-- what both a header and a flat image tell of a snapshot
pub record SnapLine : Type 0 where
  pub id : ℕ
  pub name : List ℕ
  pub status : SnapStatus

abbrev pub line_of_snap : SnapView → SnapLine
line_of_snap s = record { id = s.id; name = s.name; status = s.status }

abbrev pub line_of_flat : FlatSnap → SnapLine
line_of_flat s = record { id = s.id; name = s.name; status = s.status }

-- each byte of a view below its size is what the object that holds it shows at that view
abbrev pub IsViewShown : Snapshots → HeaderView → (objects : ℕ → Mapped) → FlatImage → Option ℕ → Shape → Type 0
IsViewShown below h objects i v shape = (x : ℕ) → x < shape.size
    → slice_index (flat_bytes i v) x ≡ shown below shape.parent (view (versioned (objects (object_of h.layout x))) v)
    (offset_of h.layout x) x

-- a snapshot's id was drawn by the header
abbrev pub IsNumbered : HeaderView → Option ℕ → Type 0
IsNumbered h None = Unit {0}
IsNumbered h (Some t) = (0 < t) × (t ≤ h.snap_seq)

-- an object inside the head's overlap: its first byte is below it
abbrev pub IsInside : HeaderView → (number : ℕ) → Type 0
IsInside h number = IsInOverlap h.parent (byte_at h.layout number 0)

-- where an object inside the head's overlap is absent, a view inherits the bytes that the head
-- inherits
abbrev pub InheritsAlike : Snapshots → HeaderView → (objects : ℕ → Mapped) → Shape → Type 0
InheritsAlike below h objects shape = (x : ℕ) → IsInside h (object_of h.layout x)
    → (objects (object_of h.layout x)).head ≡ None
    → inherited below shape.parent x ≡ inherited below h.parent x

pub record ImageStands (below : Snapshots) (linked : Links) (h : HeaderView) (objects : ℕ → Mapped)
    (i : FlatImage) : Type 0 where
  -- the snapshots are the flat image's, in order
  pub same : map line_of_snap h.snaps ≡ map line_of_flat i.snaps
  pub role : h.role ≡ i.role
  -- each view is as long as its size
  pub long : EachView h (λ v shape. length (flat_bytes i v) ≡ shape.size)
  pub bytes : EachView h (IsViewShown below h objects i)
  -- the parent that a view names is there, with bytes up to the overlap, which ends within the
  -- view; the image is linked to it
  pub parents : EachView h (λ v shape. HasParent below linked shape.parent)
  pub within : EachView h (λ v shape. IsOverlapWithin shape.size shape.parent)
  -- a head's bytes past the image's size are zeros
  pub clear : (x : ℕ) → h.size ≤ x → slice_index (unwrap_or (objects (object_of h.layout x)).head [])
      (offset_of h.layout x) ≡ 0
  -- An object that is absent inside the head's overlap was never changed, and there each view
  -- inherits what the head does. So a copy-up fills the head and each snapshot with what they
  -- showed.
  pub untouched : (n : ℕ) → IsInside h n → (objects n).head ≡ None → objects n ≡ mapped_blank
  pub alike : EachView h (λ v shape. InheritsAlike below h objects shape)
  -- an object keeps nothing above its number, and its number isn't above the header's
  pub tidy : (n : ℕ) → IsTidy (versioned (objects n))
  pub seen : (n : ℕ) → (objects n).seq ≤ h.snap_seq
  pub numbered : EachView h (λ v shape. IsNumbered h v)
  pub laid : IsLayout h.layout
