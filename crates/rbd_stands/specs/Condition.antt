-- What operations have to meet, so that the records after them stand for a flat site again.
use Rattle.std.specs.Prelude.{◌≡◌, ◌≢◌, ℕ, ◌+◌, ◌<◌, ◌≤◌, List, [], length, map, slice_get, slice_index, All, IsTrue, IsSome, Option, Some, None, unwrap_or}
use Rattle.rbd_kinds.specs.declared.header.HeaderView.{HeaderView}
use Rattle.rbd_kinds.specs.declared.header.ParentLink.{ParentLink}
use Rattle.rbd_kinds.specs.declared.header.SnapContext.{SnapContext}
use Rattle.rbd_kinds.specs.declared.header.SnapView.{SnapView}
use Rattle.rbd_kinds.specs.declared.layout.Extent.{Extent}
use Rattle.rbd_kinds.specs.declared.layout.Part.{Part}
use Rattle.rbd_kinds.specs.declared.header.Role.TheVariants.{Plain}
use Rattle.rbd_kinds.specs.Form.{IsNewHeader}
use Rattle.rbd_kinds.specs.Striping.{byte_at, object_of, offset_of}
use Rattle.rbd_layout.specs.Pieces.{IsPart, IsPartsOf}
use Rattle.rbd_header.specs.Header.{snap_in, cut}
use Rattle.rbd_object.specs.Kept.{is_listed}
use Rattle.rbd_object.specs.Mapped.{Mapped}
use Rattle.rbd_site.specs.Records.{Records}
use Rattle.rbd_stands.specs.Image.{IsInside}
use Rattle.rbd_stands.specs.Site.{Pending}
use Rattle.rbd_stands.specs.View.{EachView}
use Rattle.rbd_stands.specs.Shown.{Snapshots, IsInOverlap, inherited, shown}

-- the directory has drawn the id
abbrev pub IsDrawn : Records → (image : ℕ) → Type 0
IsDrawn r image = image ≤ r.directory.drawn

-- The context of a change is the header's: its number is that of the snapshot that was taken last,
-- and it lists each snapshot that the header lists.
pub record IsContextOf (h : HeaderView) (context : SnapContext) : Type 0 where
  pub seq : context.seq ≡ h.snap_seq
  pub lists : (t : ℕ) (s : SnapView) → snap_in h.snaps t ≡ Some s → IsTrue (is_listed context.snaps t)

-- the part lies as a part of the image in this object, and ends within a size
pub record IsPartBelow (h : HeaderView) (size number : ℕ) (p : Part) : Type 0 where
  pub part : IsPart h.layout number p
  pub below : p.at + p.len ≤ size

abbrev pub ArePartsBelow : HeaderView → (size number : ℕ) → List Part → Type 0
ArePartsBelow h size number parts = All (IsPartBelow h size number) parts

-- the image bytes of a part, and of several
abbrev pub extent_of : Part → Extent
extent_of p = record { at = p.at; len = p.len }

abbrev pub extents_of : List Part → List Extent
extents_of parts = map extent_of parts

-- inside the head's overlap the object's head exists, so that it was copied up
abbrev pub IsCopiedUp : HeaderView → (number : ℕ) → Mapped → Type 0
IsCopiedUp h number o = IsInside h number → IsSome o.head

-- a view doesn't have this snapshot as its parent
abbrev pub NamesOther : (image snap : ℕ) → Option ParentLink → Type 0
NamesOther image snap None = Unit {0}
NamesOther image snap (Some link) = (link.image ≡ image) → (link.snap ≡ snap) → ⊥

-- no header has a view whose parent is this snapshot, and no clone that is being made awaits it
pub record IsUnnamed (pending : List Pending) (r : Records) (image snap : ℕ) : Type 0 where
  pub views : (child : ℕ) (h : HeaderView) → r.headers child ≡ Some h
      → EachView h (λ v shape. NamesOther image snap shape.parent)
  pub awaited : (k : ℕ) (p : Pending) → slice_get pending k ≡ Some p → NamesOther image snap (Some p.link)

-- the parts are all places of an object below the image's size, in order
abbrev pub AreWhole : HeaderView → (number : ℕ) → List Part → Type 0
AreWhole h number parts = IsPartsOf h.layout (record { at = 0; len = h.size }) number parts

-- bytes that become an object's head are zeros at places past the size
abbrev pub IsZeroPast : HeaderView → (number : ℕ) → (bytes : List ℕ) → Type 0
IsZeroPast h number bytes = (x : ℕ) → h.size ≤ x → object_of h.layout x ≡ number
    → slice_index bytes (offset_of h.layout x) ≡ 0

-- What a shrink does before it sets the size: at each place from the new size on the head is zero,
-- and an object that the size cuts inside the overlap was copied up.
pub record IsZeroedFrom (h : HeaderView) (size : ℕ) (objects : ℕ → Mapped) : Type 0 where
  pub zeros : (x : ℕ) → size ≤ x → x < h.size → slice_index (unwrap_or (objects (object_of h.layout x)).head [])
      (offset_of h.layout x) ≡ 0
  pub copied_up : (x : ℕ) → size ≤ x → x < h.size
      → IsInOverlap (cut size h.parent) (byte_at h.layout (object_of h.layout x) 0)
      → IsSome (objects (object_of h.layout x)).head

-- The flat bytes after an object's head became `new`: at its places what it shows now, elsewhere
-- the old ones. Inside the overlap a head doesn't become absent, since the parent's bytes would
-- show again.
pub record ChangesObject (below : Snapshots) (h : HeaderView) (n : ℕ) (new : Option (List ℕ))
    (old bytes : List ℕ) : Type 0 where
  pub long : length bytes ≡ length old
  pub here : (x : ℕ) → x < h.size → object_of h.layout x ≡ n
      → slice_index bytes x ≡ shown below h.parent new (offset_of h.layout x) x
  pub elsewhere : (x : ℕ) → x < h.size → object_of h.layout x ≢ n → slice_index bytes x ≡ slice_index old x
  pub clear : (x : ℕ) → h.size ≤ x → object_of h.layout x ≡ n → slice_index (unwrap_or new []) (offset_of h.layout x)
      ≡ 0
  pub there : IsInside h n → IsSome new

-- the bytes are those that the head inherits at an object's places
abbrev pub IsGathered : Snapshots → HeaderView → (number : ℕ) → (bytes : List ℕ) → Type 0
IsGathered below h number bytes = (x : ℕ) → object_of h.layout x ≡ number → slice_index bytes (offset_of h.layout x)
    ≡ inherited below h.parent x

-- What a copy-up has to meet, if the head is still absent: the object is inside the overlap, and
-- the bytes are those that it inherits. If the head is there, nothing is done.
pub record MayCopyUp (below : Snapshots) (h : HeaderView) (number : ℕ) (o : Mapped) (bytes : List ℕ) : Type 0 where
  pub inside : o.head ≡ None → IsInside h number
  pub gathered : o.head ≡ None → IsGathered below h number bytes

-- A clone's header as it is made: its parent is the link, with the whole snapshot as overlap, and
-- it isn't mirrored.
pub record IsCloneHeader (view : HeaderView) (link : ParentLink) : Type 0 where
  pub new : IsNewHeader view
  pub parent : view.parent ≡ Some link
  pub whole : view.size ≡ link.overlap
  pub role : view.role ≡ Plain

-- No view of the child has this snapshot as its parent, and no clone of its id that is being made
-- awaits it.
pub record IsFree (pending : List Pending) (r : Records) (parent snap child : ℕ) : Type 0 where
  pub views : (h : HeaderView) → r.headers child ≡ Some h → EachView h (λ v shape. NamesOther parent snap shape.parent)
  pub awaited : (k : ℕ) (p : Pending) → slice_get pending k ≡ Some p → p.child ≡ child
      → NamesOther parent snap (Some p.link)
