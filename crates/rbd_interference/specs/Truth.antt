-- When what a request knows is true at a site, by the site's records.
use Rattle.std.specs.Prelude.{◌≡◌, ◌≢◌, ◌⊎◌, ℕ, ◌<◌, ◌≤◌, ◌^◌, Bool, true, false, List, [], All, Any, length, slice_index, unwrap_or, Option, Some, None, IsFalse, IsSome}
use Rattle.std.specs.FinSet as finset
use Rattle.rbd_kinds.specs.declared.layout.Layout.{Layout}
use Rattle.rbd_kinds.specs.declared.layout.Part.{Part}
use Rattle.rbd_kinds.specs.Form.{IsOverlapWithin}
use Rattle.rbd_kinds.specs.Striping.{offset_of}
use Rattle.rbd_layout.specs.Pieces.{IsIn}
use Rattle.rbd_kinds.specs.declared.header.HeaderView.{HeaderView}
use Rattle.rbd_kinds.specs.declared.header.ParentLink.{ParentLink}
use Rattle.rbd_kinds.specs.declared.header.SnapStatus.TheVariants.{Unprotected}
use Rattle.rbd_kinds.specs.declared.header.SnapView.{SnapView}
use Rattle.rbd_kinds.specs.declared.id.Instance.{Instance}
use Rattle.rbd_kinds.specs.declared.id.SiteId.{SiteId}
use Rattle.rbd_kinds.specs.declared.sharing.Sharing.{Sharing}
use Rattle.rbd_kinds.specs.declared.sharing.Sharing.TheVariants.{Shared}
use Rattle.rbd_kinds.specs.Sharing.{is_alone}
use Rattle.rbd_object.specs.Mapped.{Mapped, mapped_blank}
use Rattle.rbd_flat.specs.Flat.{Flat, after}
use Rattle.rbd_flat.specs.declared.effect.Effect.{Effect}
use Rattle.rbd_machine.specs.Knowledge.{Knowledge, MapsKnown, ObjectsKnown, Own, own_of, is_absent, is_drawn, is_fenced_by, is_gone, is_raised, is_there, maps_of, objects_known_of}
use Rattle.rbd_header.specs.Header.{snap_in}
use Rattle.rbd_machine.specs.Ancestors.{IsAmong}
use Rattle.rbd_machine.specs.Children.{lists_unprotecting}
use Rattle.rbd_machine.specs.Permits.{HasRoomFor}
use Rattle.rbd_machine.specs.Possible.{IsStillAs}
use Rattle.rbd_machine.specs.Standalone.{IsStandalone}
use Rattle.rbd_site.specs.Records.{Records, object_at}
use Rattle.rbd_site.specs.Step.{is_fenced}
use Rattle.rbd_stands.specs.Condition.{IsDrawn, IsUnnamed}
use Rattle.rbd_stands.specs.Covering.{AreCovered, Maps}
use Rattle.rbd_stands.specs.View.{EachView}
use Rattle.rbd_interference.specs.Ancestors.{AreSeenTrue, DrewNoneOf}

-- ---- headers

-- the header that a request knows of an image whose lock it waited for: what its look under the
-- lock told, with its own changes since
abbrev pub header_of_own : Option Own → Option HeaderView
header_of_own None = None
header_of_own (Some o) = o.header

abbrev pub known_header : Knowledge → SiteId → (image : ℕ) → Option HeaderView
known_header k site image = header_of_own (own_of k.owns site image)

-- beside which others the request goes on an image; where it waited for no lock, beside all that
-- aren't alone
abbrev pub sharing_of_own : Option Own → Sharing
sharing_of_own None = Shared
sharing_of_own (Some o) = o.sharing

abbrev pub sharing_on : Knowledge → SiteId → (image : ℕ) → Sharing
sharing_on k site image = sharing_of_own (own_of k.owns site image)

-- the header that is known is still there
abbrev pub IsStill : Sharing → (known there : Option HeaderView) → Type 0
IsStill sharing None there = Unit {0}
IsStill sharing (Some known) None = ⊥
IsStill sharing (Some known) (Some there) = IsStillAs sharing known there

-- the same of an image whose lock a request waited for, or not
abbrev pub IsStillOwn : Option Own → (there : Option HeaderView) → Type 0
IsStillOwn own there = IsStill (sharing_of_own own) (header_of_own own) there

-- whether it goes beside none
abbrev pub is_own_alone : Option Own → Bool
is_own_alone own = is_alone (sharing_of_own own)

abbrev pub is_alone_on : Knowledge → SiteId → (image : ℕ) → Bool
is_alone_on k site image = is_alone (sharing_on k site image)

-- ---- object maps

-- the state of an object in a map, 0 where there is none
abbrev pub map_state_in : (map : Option (List ℕ)) → (object : ℕ) → ℕ
map_state_in None object = 0
map_state_in (Some states) object = slice_index states object

-- the objects of a map, none where there is no map
abbrev pub map_len : (map : Option (List ℕ)) → ℕ
map_len None = 0
map_len (Some states) = length states

-- the state of each object is 0
abbrev pub HasNoStates : (map : Option (List ℕ)) → Type 0
HasNoStates map = (object : ℕ) → map_state_in map object ≡ 0

-- These are the states of a map that is there, with some zeros behind them.
pub record AreStatesOf (states : List ℕ) (map : Option (List ℕ)) : Type 0 where
  pub there : List ℕ
  pub is : map ≡ Some there
  pub same : (object : ℕ) → slice_index states object ≡ slice_index there object
  pub long : length there ≤ length states
  pub few : length states ≤ 2 ^ 20

-- a snapshot's map is there, with the states of the head, and as many at least
pub record IsPutAs (put head : Option (List ℕ)) : Type 0 where
  pub there : List ℕ
  pub is : put ≡ Some there
  pub same : (object : ℕ) → slice_index there object ≡ map_state_in head object
  pub long : map_len head ≤ length there

-- a map is there, of so many objects at least
pub record HasAtLeast (count : ℕ) (map : Option (List ℕ)) : Type 0 where
  pub there : List ℕ
  pub is : map ≡ Some there
  pub long : count ≤ length there

abbrev pub IsCountTrue : Option ℕ → (map : Option (List ℕ)) → Type 0
IsCountTrue None map = Unit {0}
IsCountTrue (Some count) map = HasAtLeast count map

-- What is known of an image's maps is true: an object's state that was raised, in the map of the
-- head or of a snapshot, isn't 0. A request that is alone on the image knows the head's states as
-- they are, how long its map is at least, and that a map which it put still has them.
pub record AreMapsTrue (alone : Bool) (maps : Maps) (m : MapsKnown) : Type 0 where
  pub raised : (view : Option ℕ) (object : ℕ) → is_raised view object m.raised ≡ true
      → map_state_in (maps view) object ≢ 0
  pub states : alone ≡ true → (states : List ℕ) → m.states ≡ Some states → AreStatesOf states (maps None)
  pub count : alone ≡ true → IsCountTrue m.count (maps None)
  pub put : alone ≡ true → (snap : ℕ) → m.put ≡ Some snap → IsPutAs (maps (Some snap)) (maps None)

-- ---- objects

-- each place of the parts is zero in an object's head, or each place of the object
abbrev pub AreZeros : Layout → (head : Option (List ℕ)) → Option (List Part) → Type 0
AreZeros layout head None = (offset : ℕ) → slice_index (unwrap_or head []) offset ≡ 0
AreZeros layout head (Some parts) = (x : ℕ) → Any (IsIn x) parts → slice_index (unwrap_or head []) (offset_of layout x)
    ≡ 0

-- What is known of an image's objects is true: one that the request removed isn't there, and one
-- that it changed or read is. A request that is alone on the image knows that what it zeroed is
-- still zero.
pub record AreObjectsTrue (alone : Bool) (layout : Layout) (objects : ℕ → Mapped) (o : ObjectsKnown) : Type 0 where
  pub absent : (number : ℕ) → is_absent number o.absent ≡ true → (objects number).head ≡ None
  pub there : (number : ℕ) → is_there number o.there ≡ true → IsSome (objects number).head
  pub blank : alone ≡ true → All (λ b. AreZeros layout (objects b.object).head b.parts) o.blank

-- ---- ids

abbrev pub HasNoHeader : Records → (image : ℕ) → Type 0
HasNoHeader r image = r.headers image ≡ None

-- an image whose header was removed: its id isn't drawn again
pub record IsGoneAt (r : Records) (image : ℕ) : Type 0 where
  pub drawn : IsDrawn r image
  pub header : HasNoHeader r image

-- An id that was drawn waits for its header: nothing was done to it yet, and its head's map, where
-- there is one, has no state of an object.
pub record IsWaiting (r : Records) (image : ℕ) : Type 0 where
  pub drawn : IsDrawn r image
  pub header : HasNoHeader r image
  pub blank : (number : ℕ) → object_at r image number ≡ mapped_blank
  pub unraised : HasNoStates (r.maps image None)

-- The request knows that an image has no header: it made none yet, or removed it.
abbrev pub KnowsNoHeader : Knowledge → SiteId → (image : ℕ) → Type 0
KnowsNoHeader k site image = (is_drawn k.drawn site image ≡ true) ⊎ (is_gone k.gone site image ≡ true)

-- ---- children of snapshots

-- the child is on the list of the snapshot's children
abbrev pub IsChildOf : Records → (parent snap child : ℕ) → Type 0
IsChildOf r parent snap child = finset.contains r.children (record { parent = parent; snap = snap; child = child })
    ≡ true

-- A child may count on the snapshot until its header names it: it is on the list, and the image has
-- the snapshot, of this size, and not unprotected.
pub record HasBase (r : Records) (child : ℕ) (link : ParentLink) : Type 0 where
  pub linked : IsChildOf r link.image link.snap child
  pub parent : HeaderView
  pub there : r.headers link.image ≡ Some parent
  pub view : SnapView
  pub listed : snap_in parent.snaps link.snap ≡ Some view
  pub kept : view.status ≢ Unprotected
  pub size : view.size ≡ link.overlap

-- A snapshot has no child, and gets none: no view names it, and the request, which is alone on the
-- image, has its status at unprotecting.
pub record IsChildless (r : Records) (own : Option Own) (image snap : ℕ) : Type 0 where
  pub unnamed : IsUnnamed [] r image snap
  pub alone : is_own_alone own ≡ true
  pub unprotecting : lists_unprotecting (header_of_own own) snap ≡ true

-- None of the children that the one makes is based on a snapshot of which the other knows that it
-- has no child.
abbrev pub AreBasedElsewhere : SiteId → (k j : Knowledge) → Type 0
AreBasedElsewhere site k j = (child : ℕ) (link : ParentLink)
    → IsAmong (record { site = site; child = child; link = link }) k.based
    → IsAmong (record { site = site; image = link.image; snap = link.snap }) j.childless → ⊥

-- What is known of children is true. The links that the request added stay, since it drew the ids
-- of these children, and nobody else knows them. What it knows of their bases rests on that alone,
-- and so holds also where the instance is fenced. That a snapshot has no child rests on the lock.
pub record AreChildrenTrue (site : SiteId) (r : Records) (me : Instance) (k : Knowledge) : Type 0 where
  pub linked : (parent snap child : ℕ)
      → IsAmong (record { site = site; parent = parent; snap = snap; child = child }) k.linked
      → (is_drawn k.drawn site child ≡ true) × IsChildOf r parent snap child
  pub based : (child : ℕ) (link : ParentLink) → IsAmong (record { site = site; child = child; link = link }) k.based
      → (is_drawn k.drawn site child ≡ true) × HasBase r child link
  pub childless : IsFalse (is_fenced r me) → (image snap : ℕ)
      → IsAmong (record { site = site; image = image; snap = snap }) k.childless
      → IsChildless r (own_of k.owns site image) image snap
  pub apart : IsFalse (is_fenced r me) → AreBasedElsewhere site k k

-- ---- all of it

-- What a request of an instance knows is true at the site. Where the instance is fenced, its
-- headers say nothing: its lock may be broken, and another may change the image. It does nothing by
-- them any more. No id whose header the request removed waits for one. Each header that it was told,
-- of whatever image, was the image's, and none of the ids that it drew is such an image's.
pub record IsTrueAt (site : SiteId) (r : Records) (me : Instance) (k : Knowledge) : Type 0 where
  pub owned : IsFalse (is_fenced r me) → (image : ℕ) → IsStillOwn (own_of k.owns site image) (r.headers image)
  pub drawn : (image : ℕ) → is_drawn k.drawn site image ≡ true → IsWaiting r image
  pub fenced : (i : Instance) → is_fenced_by k.fenced site i ≡ true → is_fenced r i ≡ true
  pub mapped : IsFalse (is_fenced r me) → (image : ℕ) → IsSome (known_header k site image)
      → AreMapsTrue (is_alone_on k site image) (r.maps image) (maps_of k.maps site image)
  pub objects : IsFalse (is_fenced r me) → (image : ℕ) (h : HeaderView) → known_header k site image ≡ Some h
      → AreObjectsTrue (is_alone_on k site image) h.layout (object_at r image) (objects_known_of k.objects site image)
  pub gone : (image : ℕ) → is_gone k.gone site image ≡ true → IsGoneAt r image
  pub apart : (image : ℕ) → is_gone k.gone site image ≡ true → is_drawn k.drawn site image ≡ false
  pub counted : (image : ℕ) → KnowsNoHeader k site image
      → IsCountTrue (maps_of k.maps site image).count (r.maps image None)
  pub seen : AreSeenTrue site r k.seen
  pub strange : DrewNoneOf site k.seen k
  pub children : AreChildrenTrue site r me k

-- ---- the site

-- No image has a parent or a journal. So it is until there are clones and journals.
abbrev pub AreStandalone : Records → Type 0
AreStandalone r = (image : ℕ) (h : HeaderView) → r.headers image ≡ Some h → IsStandalone h

-- An image has a map at each of its views, with all objects of the view's size, and state 0 means
-- that an object is absent there. The head's overlap ends within each view: so an object inside it
-- is one of each map.
pub record HasMaps (h : HeaderView) (maps : Maps) (objects : ℕ → Mapped) : Type 0 where
  pub covered : AreCovered h maps objects
  pub there : EachView h (λ v shape. IsSome (maps v))
  pub room : EachView h (λ v shape. HasRoomFor h.layout shape.size (map_len (maps v)))
  pub within : EachView h (λ v shape. IsOverlapWithin shape.size h.parent)

-- Each image has its maps. What is kept of an id that the directory hasn't drawn has no state.
pub record AreMapped (r : Records) : Type 0 where
  pub images : (image : ℕ) (h : HeaderView) → r.headers image ≡ Some h → HasMaps h (r.maps image) (object_at r image)
  pub fresh : (image : ℕ) → r.directory.drawn < image → HasNoStates (r.maps image None)

-- The image that a view has as its parent is less deep. So reads that go from parent to parent end.
abbrev pub IsLower : Records → (depth : ℕ) → Option ParentLink → Type 0
IsLower r depth None = Unit {0}
IsLower r depth (Some link) = (parent : HeaderView) → r.headers link.image ≡ Some parent → parent.depth < depth

abbrev pub AreRanked : Records → Type 0
AreRanked r = (image : ℕ) (h : HeaderView) → r.headers image ≡ Some h
    → EachView h (λ v shape. IsLower r h.depth shape.parent)

-- the flat site after an effect, or after none
abbrev pub changed_by : Flat → Option Effect → Flat
changed_by f None = f
changed_by f (Some e) = after f e
