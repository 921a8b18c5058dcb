-- What was read of a snapshot, and when it is so: as long as the image lists the snapshot (Ceph:
-- what a snapshot shows never changes). And what may be of a header later.
use Rattle.std.specs.Prelude.{◌≡◌, ℕ, ◌≤◌, List, Option, Some, None}
use Rattle.rbd_kinds.specs.declared.header.HeaderView.{HeaderView}
use Rattle.rbd_kinds.specs.declared.header.ParentLink.{ParentLink}
use Rattle.rbd_kinds.specs.declared.header.SnapView.{SnapView}
use Rattle.rbd_kinds.specs.declared.layout.Part.{Part}
use Rattle.rbd_header.specs.Header.{snap_in}
use Rattle.rbd_header.specs.Later.{IsLaterOf}
use Rattle.rbd_flat.specs.Flat.{Flat, FlatSnap}
use Rattle.rbd_flat.specs.Laws.{snap_at}
use Rattle.rbd_site.specs.Records.{Records}
use Rattle.rbd_stands.specs.Condition.{ArePartsBelow}
use Rattle.rbd_stands.specs.Reading.{AreFlatBytes, AreInherited}

-- What a read of parts told of a snapshot: the bytes are those of the flat snapshot. Where the
-- object was absent (None), the flat snapshot has there what it inherits from its parent.
abbrev pub IsTold : Flat → (image snap : ℕ) → Option ParentLink → List Part → (told : Option (List ℕ)) → Type 0
IsTold f image snap parent parts (Some bytes) = AreFlatBytes f image (Some snap) parts bytes
IsTold f image snap parent parts None = AreInherited f image (Some snap) parent parts

-- It is so where the image lists the snapshot, of parts that lie in the object below its size.
abbrev pub IsStillTold : Records → Flat → (image snap number : ℕ) → List Part → (told : Option (List ℕ)) → Type 0
IsStillTold r f image snap number parts told = (h : HeaderView) (s : SnapView) → r.headers image ≡ Some h
    → snap_in h.snaps snap ≡ Some s
    → ArePartsBelow h s.size number parts → IsTold f image snap s.parent parts told

-- a flat snapshot that is there before and behind has the same bytes
abbrev pub KeepsSnapshots : (before behind : Flat) → Type 0
KeepsSnapshots f g = (image snap : ℕ) (old new : FlatSnap) → snap_at f image snap ≡ Some old
    → snap_at g image snap ≡ Some new → new.bytes ≡ old.bytes

-- The image had a header before, which could list the snapshot; the one behind is later.
pub record CouldList (before : Option HeaderView) (snap : ℕ) (behind : HeaderView) : Type 0 where
  pub header : HeaderView
  pub is : before ≡ Some header
  pub dated : snap ≤ header.snap_seq
  pub later : IsLaterOf header behind

-- the snapshot's number isn't above that of the snapshot which the image took last
abbrev pub IsDated : Records → (image snap : ℕ) → Type 0
IsDated r image snap = (h : HeaderView) → r.headers image ≡ Some h → snap ≤ h.snap_seq
