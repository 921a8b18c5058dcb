-- What a request may do by what it knows. An operation without a row isn't permitted. No image has
-- a parent or a journal yet, so the rows say nothing of these either.
use Rattle.std.specs.Prelude.{◌≡◌, ◌⊎◌, ℕ, ◌+◌, ◌*◌, ◌^◌, ◌<◌, ◌≤◌, Bool, true, false, List, [], All, Any, length, slice_index, Option, Some, None, IsSome}
use Rattle.rbd_kinds.specs.declared.children_op.ChildrenOp.{ChildrenOp}
use Rattle.rbd_kinds.specs.declared.children_op.ChildrenOp.TheVariants as child
use Rattle.rbd_kinds.specs.declared.data_op.DataOp.{DataOp}
use Rattle.rbd_kinds.specs.declared.data_op.DataOp.TheVariants as object
use Rattle.rbd_kinds.specs.declared.directory_op.DirectoryOp.{DirectoryOp}
use Rattle.rbd_kinds.specs.declared.directory_op.DirectoryOp.TheVariants as directory
use Rattle.rbd_kinds.specs.declared.header.HeaderView.{HeaderView}
use Rattle.rbd_kinds.specs.declared.header.ParentLink.{ParentLink}
use Rattle.rbd_kinds.specs.declared.header.SnapContext.{SnapContext}
use Rattle.rbd_kinds.specs.declared.header.SnapStatus.{SnapStatus}
use Rattle.rbd_kinds.specs.declared.header.SnapStatus.TheVariants.{Unprotected}
use Rattle.rbd_kinds.specs.declared.header.SnapView.{SnapView}
use Rattle.rbd_kinds.specs.declared.header_op.HeaderOp.{HeaderOp}
use Rattle.rbd_kinds.specs.declared.header_op.HeaderOp.TheVariants as header
use Rattle.rbd_kinds.specs.declared.id.SiteId.{SiteId}
use Rattle.rbd_kinds.specs.declared.layout.Layout.{Layout}
use Rattle.rbd_kinds.specs.declared.layout.Part.{Part}
use Rattle.rbd_kinds.specs.declared.map_op.MapOp.{MapOp}
use Rattle.rbd_kinds.specs.declared.map_op.MapOp.TheVariants as states
use Rattle.rbd_kinds.specs.declared.operation.Op.{Op}
use Rattle.rbd_kinds.specs.declared.operation.Op.TheVariants as op
use Rattle.rbd_kinds.specs.declared.sharing.Sharing.{Sharing}
use Rattle.rbd_kinds.specs.declared.sharing.Sharing.TheVariants.{Alone, Discard}
use Rattle.rbd_kinds.specs.Form.{HasFewObjects, IsNewHeader}
use Rattle.rbd_kinds.specs.Header.{snap_named}
use Rattle.rbd_kinds.specs.Parts.{parts_len}
use Rattle.rbd_kinds.specs.States.{HoldStates}
use Rattle.rbd_kinds.specs.Sharing.{is_alone}
use Rattle.rbd_kinds.specs.Striping.{byte_at, object_of, offset_of}
use Rattle.rbd_header.specs.Header.{context_of, is_full, snap_in}
use Rattle.rbd_layout.specs.Pieces.{IsIn, IsPart}
use Rattle.rbd_map.specs.States.{states_of}
use Rattle.rbd_machine.specs.Ancestors.{IsAmong, SnapPlace}
use Rattle.rbd_machine.specs.Knowledge.{Knowledge, MapsKnown, ObjectsKnown, own_of, is_absent, is_drawn, is_fenced_by, is_gone, is_raised, maps_of, objects_known_of}

-- The request has the image's lock, and the header that it knows, by its look under the lock and
-- its own changes since, meets a condition.
pub record OwnsBy (k : Knowledge) (site : SiteId) (image : ℕ) (condition : Sharing → HeaderView → Type 0) : Type 0 where
  pub sharing : Sharing
  pub header : HeaderView
  pub is : own_of k.owns site image ≡ Some
      (record { site = site; image = image; sharing = sharing; header = Some header })
  pub meets : condition sharing header

-- the same, of an image on which the request is alone
abbrev pub OwnsAlone : Knowledge → SiteId → (image : ℕ) → (HeaderView → Type 0) → Type 0
OwnsAlone k site image condition = OwnsBy k site image (λ sharing h. (sharing ≡ Alone) × condition h)

-- ---- object maps

-- the objects of a size are among the first of so many
abbrev pub HasRoomFor : Layout → (size count : ℕ) → Type 0
HasRoomFor layout size count = (x : ℕ) → x < size → object_of layout x < count

-- The head's map is known to be there, and to have each object of a size.
pub record IsMappedFor (m : MapsKnown) (layout : Layout) (size : ℕ) : Type 0 where
  pub count : ℕ
  pub known : m.count ≡ Some count
  pub room : HasRoomFor layout size count

-- The object's state in the head's map isn't 0: this request set it.
abbrev pub HasState : MapsKnown → (number : ℕ) → Type 0
HasState m number = is_raised None number m.raised ≡ true

-- The request drew the id, so that nobody else knows the image, and the map has at most 2^20
-- objects.
pub record MayMakeMap (k : Knowledge) (site : SiteId) (image count : ℕ) : Type 0 where
  pub drawn : is_drawn k.drawn site image ≡ true
  pub few : count ≤ 2 ^ 20

-- The map of an image's head becomes longer, by a request that made the image or is alone on it.
abbrev pub MayLengthen : Knowledge → SiteId → (image count : ℕ) → Type 0
MayLengthen k site image count = MayMakeMap k site image count ⊎ OwnsAlone k site image (λ h. count ≤ 2 ^ 20)

-- The request puts the map of the next snapshot, with the states of the head that it was told.
pub record MayPut (m : MapsKnown) (snap : ℕ) (bits : List ℕ) (h : HeaderView) : Type 0 where
  pub next : snap ≡ h.snap_seq + 1
  pub told : m.states ≡ Some (states_of bits (4 * length bits))
  pub hold : HoldStates bits

-- ---- headers

-- The request drew the id, and the header is a new one, with neither parent nor journal. The
-- image's map is there, and has all of its objects.
pub record MayMake (k : Knowledge) (site : SiteId) (image : ℕ) (view : HeaderView) : Type 0 where
  pub drawn : is_drawn k.drawn site image ≡ true
  pub new : IsNewHeader view
  pub no_parent : view.parent ≡ None
  pub no_journal : view.journal ≡ false
  pub mapped : IsMappedFor (maps_of k.maps site image) view.layout view.size

-- An image byte is zero in its object, by what is known: the object isn't there by its state in the
-- head's map, or was zeroed there.
pub record IsZeroByState (m : MapsKnown) (h : HeaderView) (x : ℕ) : Type 0 where
  pub states : List ℕ
  pub told : m.states ≡ Some states
  pub none : slice_index states (object_of h.layout x) ≡ 0

abbrev pub IsInParts : Option (List Part) → (x : ℕ) → Type 0
IsInParts None x = Unit {0}
IsInParts (Some parts) x = Any (IsIn x) parts

abbrev pub IsZeroByChange : ObjectsKnown → HeaderView → (x : ℕ) → Type 0
IsZeroByChange o h x = Any (λ b. (b.object ≡ object_of h.layout x) × IsInParts b.parts x) o.blank

-- The size keeps its limits. Where it grows, the head's map has the new objects; where it shrinks,
-- the bytes that go are zeros, so that an image which grows again shows zeros there.
pub record MaySize (m : MapsKnown) (o : ObjectsKnown) (to : ℕ) (h : HeaderView) : Type 0 where
  pub few : HasFewObjects h.layout to
  pub mapped : h.size < to → IsMappedFor m h.layout to
  pub zeroed : (x : ℕ) → to ≤ x → x < h.size → IsZeroByState m h x ⊎ IsZeroByChange o h x

-- The name isn't listed, and one more snapshot can be. The snapshot's map was put.
pub record MayTakeSnap (m : MapsKnown) (name : List ℕ) (h : HeaderView) : Type 0 where
  pub unlisted : snap_named h.snaps name ≡ None
  pub has_room : is_full h ≡ false
  pub put : m.put ≡ Some (h.snap_seq + 1)

-- The snapshot is listed, and isn't protected.
pub record MayRemove (snap : ℕ) (h : HeaderView) : Type 0 where
  pub view : SnapView
  pub listed : snap_in h.snaps snap ≡ Some view
  pub unprotected : view.status ≡ Unprotected

-- The status of a snapshot that is listed is set: to unprotected only where the snapshot has no
-- child, so that it may be removed from then on.
pub record MayMark (childless : List SnapPlace) (site : SiteId) (image snap : ℕ) (status : SnapStatus) (h : HeaderView)
    : Type 0 where
  pub view : SnapView
  pub listed : snap_in h.snaps snap ≡ Some view
  pub frees : status ≡ Unprotected → IsAmong (record { site = site; image = image; snap = snap }) childless

-- ---- children

-- a view's parent, where it has one, isn't this snapshot
abbrev pub IsOtherThan : (image snap : ℕ) → Option ParentLink → Type 0
IsOtherThan image snap parent =
    (link : ParentLink) → parent ≡ Some link → link.image ≡ image → link.snap ≡ snap → ⊥

-- no view of an image, its head or a snapshot, has this snapshot as its parent
pub record NamesNone (image snap : ℕ) (h : HeaderView) : Type 0 where
  pub head : IsOtherThan image snap h.parent
  pub snaps : (t : ℕ) (s : SnapView) → snap_in h.snaps t ≡ Some s → IsOtherThan image snap s.parent

-- A link is taken away by who makes the child, who owns it where no view of it has the parent, or
-- who removed it: nobody else can count on it.
abbrev pub MayUnlink : Knowledge → SiteId → (parent snap child : ℕ) → Type 0
MayUnlink k site parent snap child = (is_drawn k.drawn site child ≡ true) ⊎ ((is_gone k.gone site child ≡ true)
    ⊎ OwnsBy k site child (λ sharing h. NamesNone parent snap h))

-- ---- locks

-- The request waited for the image's lock, alone, and hasn't looked at the header since. So it
-- relies on no header, and may give the lock up.
pub record HoldsUnlooked (k : Knowledge) (site : SiteId) (image : ℕ) : Type 0 where
  pub is : own_of k.owns site image ≡ Some (record { site = site; image = image; sharing = Alone; header = None })

-- ---- objects

-- The request is alone on the image, or has its turn at the object.
abbrev pub HasTurn : (alone : Bool) → Option ℕ → (number : ℕ) → Type 0
HasTurn true turn number = Unit {0}
HasTurn false turn number = turn ≡ Some number

-- Whether a request that goes beside these others makes zeros, and removes objects: a flatten is
-- never beside it, which needs each object that is there, and would fill again what became zero.
abbrev pub makes_zeros : Sharing → Bool
makes_zeros Alone = true
makes_zeros Discard = true
makes_zeros _ = false

-- the part lies in the object by the layout, and ends within the size
pub record LiesBelow (h : HeaderView) (number : ℕ) (p : Part) : Type 0 where
  pub part : IsPart h.layout number p
  pub below : p.at + p.len ≤ h.size

-- Bytes are written under the snapshot context of the own header, within its size, at the turn, and
-- behind the object's state in the head's map.
pub record MayWrite (m : MapsKnown) (turn : Option ℕ) (number : ℕ) (context : SnapContext) (parts : List Part)
    (bytes : List ℕ) (sharing : Sharing) (h : HeaderView) : Type 0 where
  pub under : context ≡ context_of h
  pub within : All (LiesBelow h number) parts
  pub long : length bytes ≡ parts_len parts
  pub at_turn : HasTurn (is_alone sharing) turn number
  pub raised : HasState m number

-- the object has bytes of the size
abbrev pub IsObjectOf : HeaderView → (number : ℕ) → Type 0
IsObjectOf h number = (x : ℕ) × (x < h.size) × (object_of h.layout x ≡ number)

-- The state of an object of the size is set in the head's map, at the turn: to 0 only where the
-- object isn't there, and beside no flatten.
pub record MaySet (o : ObjectsKnown) (turn : Option ℕ) (number state : ℕ) (sharing : Sharing) (h : HeaderView)
    : Type 0 where
  pub within : IsObjectOf h number
  pub at_turn : HasTurn (is_alone sharing) turn number
  pub is_state : state < 3
  pub lowers : state ≡ 0 → is_absent number o.absent ≡ true
  pub zeros : state ≡ 0 → makes_zeros sharing ≡ true

-- Parts become zeros, which makes no object that isn't there, and beside no flatten.
pub record MayZero (turn : Option ℕ) (number : ℕ) (context : SnapContext) (parts : List Part) (sharing : Sharing)
    (h : HeaderView) : Type 0 where
  pub under : context ≡ context_of h
  pub within : All (LiesBelow h number) parts
  pub at_turn : HasTurn (is_alone sharing) turn number
  pub zeros : makes_zeros sharing ≡ true

-- All bytes of an object become zeros, and it stays, behind its state in the head's map, and beside
-- no flatten.
pub record MayEmpty (m : MapsKnown) (turn : Option ℕ) (number : ℕ) (context : SnapContext) (sharing : Sharing)
    (h : HeaderView) : Type 0 where
  pub under : context ≡ context_of h
  pub within : IsObjectOf h number
  pub at_turn : HasTurn (is_alone sharing) turn number
  pub raised : HasState m number
  pub zeros : makes_zeros sharing ≡ true

-- no byte of the object is inside the overlap
abbrev pub IsOutsideOverlap : HeaderView → (number : ℕ) → Type 0
IsOutsideOverlap h number = (link : ParentLink) → h.parent ≡ Some link → link.overlap ≤ byte_at h.layout number 0

-- An object goes, unless its parent's bytes would show then, and beside no flatten.
pub record MayRemoveObject (turn : Option ℕ) (number : ℕ) (context : SnapContext) (sharing : Sharing)
    (h : HeaderView) : Type 0 where
  pub under : context ≡ context_of h
  pub within : IsObjectOf h number
  pub at_turn : HasTurn (is_alone sharing) turn number
  pub zeros : makes_zeros sharing ≡ true
  pub outside : IsOutsideOverlap h number

-- An object becomes these bytes, of which those past the size are zeros, behind its state.
pub record MayReplace (m : MapsKnown) (turn : Option ℕ) (number : ℕ) (context : SnapContext) (bytes : List ℕ)
    (sharing : Sharing) (h : HeaderView) : Type 0 where
  pub under : context ≡ context_of h
  pub within : IsObjectOf h number
  pub at_turn : HasTurn (is_alone sharing) turn number
  pub raised : HasState m number
  pub long : length bytes ≤ h.layout.object
  pub clear : (x : ℕ) → h.size ≤ x → object_of h.layout x ≡ number → slice_index bytes (offset_of h.layout x) ≡ 0

-- What is left of an image whose header the request removed may go: the request doesn't own the
-- image any more.
pub record IsLeftOver (k : Knowledge) (site : SiteId) (image : ℕ) : Type 0 where
  pub gone : is_gone k.gone site image ≡ true
  pub unowned : own_of k.owns site image ≡ None

-- ---- all operations

-- A name is freed by a request that is alone on its image.
abbrev pub PermitsOnDirectory : Knowledge → SiteId → DirectoryOp → Type 0
PermitsOnDirectory k site (directory.Find name) = Unit {0}
PermitsOnDirectory k site (directory.Add name) = Unit {0}
PermitsOnDirectory k site (directory.Rename from to) = Unit {0}
PermitsOnDirectory k site (directory.Remove image) = OwnsAlone k site image (λ h. Unit {0})
PermitsOnDirectory k site directory.List = Unit {0}

-- A child is linked by who makes it.
abbrev pub PermitsOnChildren : Knowledge → SiteId → ChildrenOp → Type 0
PermitsOnChildren k site (child.Add parent snap image) = is_drawn k.drawn site image ≡ true
PermitsOnChildren k site (child.Remove parent snap image) = MayUnlink k site parent snap image
PermitsOnChildren k site (child.List parent snap) = Unit {0}

-- A lock is broken only behind the fence of its owner (Ceph), so that nothing which the owner may
-- still send can do anything.
abbrev pub PermitsOnHeader : Knowledge → SiteId → (image : ℕ) → HeaderOp → Type 0
PermitsOnHeader k site image header.Get = Unit {0}
PermitsOnHeader k site image (header.Create view) = MayMake k site image view
PermitsOnHeader k site image (header.SetSize to) =
    OwnsAlone k site image (MaySize (maps_of k.maps site image) (objects_known_of k.objects site image) to)
PermitsOnHeader k site image header.Remove = OwnsAlone k site image (λ h. h.snaps ≡ [])
PermitsOnHeader k site image (header.SnapAdd name) =
    OwnsAlone k site image (MayTakeSnap (maps_of k.maps site image) name)
PermitsOnHeader k site image (header.SnapRemove snap) = OwnsAlone k site image (MayRemove snap)
PermitsOnHeader k site image (header.SnapStatus snap status) =
    OwnsAlone k site image (MayMark k.childless site image snap status)
PermitsOnHeader k site image header.LockTake = Unit {0}
PermitsOnHeader k site image header.LockDrop = HoldsUnlooked k site image
PermitsOnHeader k site image (header.LockBreak owner) = is_fenced_by k.fenced site owner ≡ true
PermitsOnHeader k site image header.Watch = Unit {0}
PermitsOnHeader k site image header.Unwatch = Unit {0}
PermitsOnHeader k site image header.WatchersGet = Unit {0}
PermitsOnHeader k site image (header.Notify kind) = Unit {0}
PermitsOnHeader k site image _ = ⊥

abbrev pub PermitsOnObject : Knowledge → SiteId → (image number : ℕ) → DataOp → Type 0
PermitsOnObject k site image number (object.Read snap parts) = Unit {0}
PermitsOnObject k site image number (object.Write context must parts bytes) =
    OwnsBy k site image (MayWrite (maps_of k.maps site image) k.turn number context parts bytes)
PermitsOnObject k site image number (object.Zero context must parts) =
    OwnsBy k site image (MayZero k.turn number context parts)
PermitsOnObject k site image number (object.Empty context) =
    OwnsBy k site image (MayEmpty (maps_of k.maps site image) k.turn number context)
PermitsOnObject k site image number (object.Remove context) =
    IsLeftOver k site image ⊎ OwnsBy k site image (MayRemoveObject k.turn number context)
PermitsOnObject k site image number (object.WriteFull context bytes) =
    OwnsBy k site image (MayReplace (maps_of k.maps site image) k.turn number context bytes)
PermitsOnObject k site image number (object.CopyUp bytes) = ⊥

-- The map of a snapshot is removed once the header doesn't list the snapshot, and all maps of an
-- image that is gone: that of its head where it is known to be there still.
abbrev pub PermitsOnMap : Knowledge → SiteId → (image : ℕ) → MapOp → Type 0
PermitsOnMap k site image (states.Resize count) = MayLengthen k site image count
PermitsOnMap k site image (states.Get view) = Unit {0}
PermitsOnMap k site image (states.Put (Some snap) bits) =
    OwnsAlone k site image (MayPut (maps_of k.maps site image) snap bits)
PermitsOnMap k site image (states.Set None object state) =
    OwnsBy k site image (MaySet (objects_known_of k.objects site image) k.turn object state)
PermitsOnMap k site image (states.Remove None) = IsLeftOver k site image × IsSome (maps_of k.maps site image).count
PermitsOnMap k site image (states.Remove (Some snap)) =
    IsLeftOver k site image ⊎ OwnsAlone k site image (λ h. snap_in h.snaps snap ≡ None)
PermitsOnMap k site image _ = ⊥

abbrev pub Permits : Knowledge → SiteId → Op → Type 0
Permits k site (op.Directory o) = PermitsOnDirectory k site o
Permits k site (op.Children o) = PermitsOnChildren k site o
Permits k site (op.Header image o) = PermitsOnHeader k site image o
Permits k site (op.Data image number o) = PermitsOnObject k site image number o
Permits k site (op.BlockAdd instance) = Unit {0}
Permits k site (op.Map image o) = PermitsOnMap k site image o
Permits k site _ = ⊥
