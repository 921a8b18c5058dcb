-- What a request was told of images and their snapshots, whose lock it doesn't need, and which
-- bytes of a snapshot it knows by that (Ceph: the parents of a clone, whose data is read through
-- layers).
use Rattle.std.specs.Prelude.{◌≡◌, ◌⊎◌, ℕ, ◌+◌, ◌-◌, ◌<◌, ◌≤◌, nat_le, nat_lt, ◌&&◌, Bool, true, false, if◌then◌else◌, List, [], ◌∷◌, All, Any, drop, slice_index, Option, Some, None}
use Rattle.rbd_kinds.specs.declared.answer.Answer.{Answer}
use Rattle.rbd_kinds.specs.declared.answer.Answer.TheVariants as answer
use Rattle.rbd_kinds.specs.declared.data_op.DataOp.TheVariants as object
use Rattle.rbd_kinds.specs.declared.header.HeaderView.{HeaderView}
use Rattle.rbd_kinds.specs.declared.header.ParentLink.{ParentLink}
use Rattle.rbd_kinds.specs.declared.header.SnapView.{SnapView}
use Rattle.rbd_kinds.specs.declared.header_op.HeaderOp.TheVariants as header
use Rattle.rbd_kinds.specs.declared.id.SiteId.{SiteId}
use Rattle.rbd_kinds.specs.declared.layout.Layout.{Layout}
use Rattle.rbd_kinds.specs.declared.layout.Part.{Part}
use Rattle.rbd_kinds.specs.declared.operation.Op.{Op}
use Rattle.rbd_kinds.specs.declared.operation.Op.TheVariants as op
use Rattle.rbd_kinds.specs.Images.{is_at}
use Rattle.rbd_header.specs.Header.{snap_in}
use Rattle.rbd_layout.specs.Pieces.{IsIn, IsPart}

-- a header that was told of an image
pub record HeaderSeen : Type 0 where
  pub site : SiteId
  pub image : ℕ
  pub header : HeaderView

-- What a read of parts of an object told of a snapshot: their bytes, one part after another, or
-- that the object is absent there (None).
pub record ObjectTold : Type 0 where
  pub site : SiteId
  pub image : ℕ
  pub snap : ℕ
  pub object : ℕ
  pub parts : List Part
  pub bytes : Option (List ℕ)

-- a snapshot of an image
pub record SnapPlace : Type 0 where
  pub site : SiteId
  pub image : ℕ
  pub snap : ℕ

-- a child that is linked to a snapshot of its parent
pub record ChildLink : Type 0 where
  pub site : SiteId
  pub parent : ℕ
  pub snap : ℕ
  pub child : ℕ

-- a child that is being made, and the parent that its header will name
pub record ChildBase : Type 0 where
  pub site : SiteId
  pub child : ℕ
  pub link : ParentLink

-- something is on a list
abbrev pub IsAmong : {T : Type 0} → T → List T → Type 0
IsAmong x [] = ⊥
IsAmong x (y ∷ ys) = (y ≡ x) ⊎ IsAmong x ys

-- ---- dates

-- a header of the image was told
abbrev pub has_seen : List HeaderSeen → SiteId → (image : ℕ) → Bool
has_seen [] site image = false
has_seen (s ∷ seen) site image = if is_at site image s.site s.image then true else has_seen seen site image

-- A header was told that could list the snapshot: its number isn't above that of the snapshot which
-- the image had taken last. So what is read of the snapshot now is never that of a later one.
abbrev pub is_dated : List HeaderSeen → SiteId → (image snap : ℕ) → Bool
is_dated [] site image snap = false
is_dated (s ∷ seen) site image snap =
    if is_at site image s.site s.image && nat_le snap s.header.snap_seq then true else is_dated seen site image snap

-- ---- what an answer tells

-- each header is kept
abbrev pub seen_by : List HeaderSeen → SiteId → Op → Answer → List HeaderSeen
seen_by seen site (op.Header image header.Get) (answer.Header h) =
    record { site = site; image = image; header = h } ∷ seen
seen_by seen site o a = seen

-- and what was read of a snapshot that has its date
abbrev pub told_when : (dated : Bool) → ObjectTold → List ObjectTold → List ObjectTold
told_when dated entry told = if dated then entry ∷ told else told

abbrev pub told_by : List HeaderSeen → List ObjectTold → SiteId → Op → Answer → List ObjectTold
told_by seen told site (op.Data image number (object.Read (Some snap) parts)) (answer.Bytes bytes) =
    told_when (is_dated seen site image snap)
    (record { site = site; image = image; snap = snap; object = number; parts = parts; bytes = Some bytes }) told
told_by seen told site (op.Data image number (object.Read (Some snap) parts)) answer.Absent =
    told_when (is_dated seen site image snap)
    (record { site = site; image = image; snap = snap; object = number; parts = parts; bytes = None }) told
told_by seen told site o a = told

-- ---- bytes

-- an image byte's own among the bytes of some parts, which stand one part after another
abbrev pub told_byte : List Part → (bytes : List ℕ) → (x : ℕ) → Option ℕ
told_byte [] bytes x = None
told_byte (p ∷ parts) bytes x =
    if nat_le p.at x && nat_lt x (p.at + p.len) then Some (slice_index bytes (x - p.at))
    else told_byte parts (drop p.len bytes) x

-- the part lies in the object, and ends within a size
pub record LiesWithin (layout : Layout) (size number : ℕ) (p : Part) : Type 0 where
  pub part : IsPart layout number p
  pub below : p.at + p.len ≤ size

-- Parts of an object were read at a snapshot that a header, which was told, lists: they lie below
-- the snapshot's size.
pub record WasRead (told : List ObjectTold) (seen : List HeaderSeen) (site : SiteId) (image snap : ℕ)
    (bytes : Option (List ℕ)) : Type 0 where
  pub header : HeaderView
  pub saw : IsAmong (record { site = site; image = image; header = header }) seen
  pub view : SnapView
  pub listed : snap_in header.snaps snap ≡ Some view
  pub object : ℕ
  pub parts : List Part
  pub lie : All (LiesWithin header.layout view.size object) parts
  pub read : IsAmong
      (record { site = site; image = image; snap = snap; object = object; parts = parts; bytes = bytes }) told

-- no byte of a parent is inherited at an image byte
abbrev pub IsPastOverlap : Option ParentLink → (x : ℕ) → Type 0
IsPastOverlap None x = Unit {0}
IsPastOverlap (Some link) x = link.overlap ≤ x

-- A byte of a snapshot is known: a read showed it; or the object is absent, and the byte is zero
-- past the overlap, and else that of the parent's snapshot.
pub data KnowsByte (told : List ObjectTold) (seen : List HeaderSeen) (site : SiteId) : (image snap x byte : ℕ)
    → Type 0 where
  Shown : (image snap x byte : ℕ) (bytes : List ℕ) (read : WasRead told seen site image snap (Some bytes))
      → told_byte read.parts bytes x ≡ Some byte
      → KnowsByte told seen site image snap x byte
  Past : (image snap x byte : ℕ) (read : WasRead told seen site image snap None) → Any (IsIn x) read.parts
      → IsPastOverlap read.view.parent x → byte ≡ 0
      → KnowsByte told seen site image snap x byte
  Inherited : (image snap x byte : ℕ) (read : WasRead told seen site image snap None) (link : ParentLink)
      → Any (IsIn x) read.parts → read.view.parent ≡ Some link → x < link.overlap
      → KnowsByte told seen site link.image link.snap x byte → KnowsByte told seen site image snap x byte

-- A byte that is inherited from a parent is known: that of the parent's snapshot below the overlap,
-- and zero past it.
abbrev pub KnowsInherited : List ObjectTold → List HeaderSeen → SiteId → Option ParentLink → (x byte : ℕ) → Type 0
KnowsInherited told seen site None x byte = byte ≡ 0
KnowsInherited told seen site (Some link) x byte =
    (x < link.overlap → KnowsByte told seen site link.image link.snap x byte) × (link.overlap ≤ x → byte ≡ 0)
