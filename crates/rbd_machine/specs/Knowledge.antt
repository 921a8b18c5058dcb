-- What a request knows: what its operations were answered, and what it waited for. It names no
-- site's state.
use Rattle.std.specs.Prelude.{ℕ, ◌*◌, ◌==◌, ◌&&◌, Bool, true, false, not, if◌then◌else◌, List, [], ◌∷◌, length, map, filter, slice_set, Option, Some, None, option_map}
use Rattle.rbd_kinds.specs.declared.answer.Answer.{Answer}
use Rattle.rbd_kinds.specs.declared.answer.Answer.TheVariants as answer
use Rattle.rbd_kinds.specs.declared.data_op.DataOp.{DataOp}
use Rattle.rbd_kinds.specs.declared.data_op.DataOp.TheVariants as object
use Rattle.rbd_kinds.specs.declared.directory_op.DirectoryOp.{DirectoryOp}
use Rattle.rbd_kinds.specs.declared.directory_op.DirectoryOp.TheVariants as directory
use Rattle.rbd_kinds.specs.declared.header.HeaderView.{HeaderView}
use Rattle.rbd_kinds.specs.declared.header_op.HeaderOp.{HeaderOp}
use Rattle.rbd_kinds.specs.declared.header_op.HeaderOp.TheVariants as header
use Rattle.rbd_kinds.specs.declared.id.Instance.{Instance}
use Rattle.rbd_kinds.specs.declared.id.SiteId.{SiteId}
use Rattle.rbd_kinds.specs.declared.map_op.MapOp.{MapOp}
use Rattle.rbd_kinds.specs.declared.map_op.MapOp.TheVariants as states
use Rattle.rbd_kinds.specs.declared.operation.Op.{Op}
use Rattle.rbd_kinds.specs.declared.operation.Op.TheVariants as op
use Rattle.rbd_kinds.specs.declared.sharing.Sharing.{Sharing}
use Rattle.rbd_kinds.specs.declared.sharing.Sharing.TheVariants.{Shared}
pub use Rattle.rbd_kinds.specs.Images.{is_at, same_site}
use Rattle.rbd_kinds.specs.Sharing.{is_alone}
use Rattle.rbd_kinds.specs.declared.layout.Part.{Part}
use Rattle.rbd_kinds.specs.Instances.{same_instance}
use Rattle.rbd_header.specs.Header.{detached, with_size, with_snap, without_snap, with_status}
use Rattle.rbd_map.specs.States.{states_of}
use Rattle.rbd_machine.specs.Ancestors.{ChildBase, ChildLink, HeaderSeen, ObjectTold, SnapPlace, seen_by, told_by}
use Rattle.rbd_machine.specs.Children.{based_by, childless_by, linked_by, snaps_of_others}
use Rattle.rbd_machine.specs.Wait.{Wait}
use Rattle.rbd_machine.specs.Wait as wait

-- an image at a site
pub record ImagePlace : Type 0 where
  pub site : SiteId
  pub image : ℕ

-- An image whose lock the request waited for, beside which others the request goes on it, and its
-- header: what the look under it told, with the request's own changes since.
pub record Own : Type 0 where
  pub site : SiteId
  pub image : ℕ
  pub sharing : Sharing
  pub header : Option HeaderView

-- An object at a view, the head (None) or a snapshot, whose state isn't 0: this request set it.
pub record Mark : Type 0 where
  pub view : Option ℕ
  pub object : ℕ

-- What is known of an image's object maps, by what it was told of them and its own changes since.
pub record MapsKnown : Type 0 where
  pub raised : List Mark
  -- the states of the head's map, and some zeros behind them
  pub states : Option (List ℕ)
  -- the head's map is there, and has so many objects at least
  pub count : Option ℕ
  -- the snapshot whose map has the head's states
  pub put : Option ℕ

pub record ImageMaps : Type 0 where
  pub site : SiteId
  pub image : ℕ
  pub known : MapsKnown

-- Places of an object of the head that this request made zeros: those of some parts, or all (None).
pub record Blank : Type 0 where
  pub object : ℕ
  pub parts : Option (List Part)

-- What is known of the objects of an image's head, by its own changes, and by what it read.
pub record ObjectsKnown : Type 0 where
  -- the objects that aren't there: the request removed them
  pub absent : List ℕ
  -- the objects that are there: the request changed them, or read them where none that removes
  -- objects was beside it
  pub there : List ℕ
  pub blank : List Blank

pub record ImageObjects : Type 0 where
  pub site : SiteId
  pub image : ℕ
  pub known : ObjectsKnown

-- an instance that the request put into a site's blocklist
pub record Fence : Type 0 where
  pub site : SiteId
  pub instance : Instance

pub record Knowledge : Type 0 where
  -- beside which others the request goes on the image whose line it joined
  pub sharing : Sharing
  pub owns : List Own
  -- the object at which the request has its turn
  pub turn : Option ℕ
  -- ids that the request drew, and made no header of yet
  pub drawn : List ImagePlace
  -- instances that the request fenced, and whose lock it didn't break yet
  pub fenced : List Fence
  -- maps of images that the request drew or owns, the latest first
  pub maps : List ImageMaps
  -- objects of images that the request owns, the latest first
  pub objects : List ImageObjects
  -- images whose header the request removed
  pub gone : List ImagePlace
  -- headers that it was told, of any image, the latest first
  pub seen : List HeaderSeen
  -- what it read of snapshots, the latest first
  pub told : List ObjectTold
  -- links of children that it added, of ids that it drew and made no header of yet
  pub linked : List ChildLink
  -- those of these children whose parent's snapshot it saw protected, behind the link
  pub based : List ChildBase
  -- snapshots of images that it is alone on, and that have no child
  pub childless : List SnapPlace

abbrev pub nothing_known : Knowledge
nothing_known =
    record {
      sharing = Shared;
      owns = [];
      turn = None;
      drawn = [];
      fenced = [];
      maps = [];
      objects = [];
      gone = [];
      seen = [];
      told = [];
      linked = [];
      based = [];
      childless = [];
    }

-- ---- where

abbrev pub own_of : List Own → SiteId → (image : ℕ) → Option Own
own_of [] site image = None
own_of (o ∷ owns) site image = if is_at site image o.site o.image then Some o else own_of owns site image

-- the header of an image on which the request is alone
abbrev pub header_alone : Option Own → Option HeaderView
header_alone None = None
header_alone (Some o) = if is_alone o.sharing then o.header else None

abbrev pub is_drawn : List ImagePlace → SiteId → (image : ℕ) → Bool
is_drawn [] site image = false
is_drawn (d ∷ drawn) site image = if is_at site image d.site d.image then true else is_drawn drawn site image

abbrev pub unmapped : MapsKnown
unmapped = record { raised = []; states = None; count = None; put = None }

abbrev pub maps_of : List ImageMaps → SiteId → (image : ℕ) → MapsKnown
maps_of [] site image = unmapped
maps_of (m ∷ maps) site image = if is_at site image m.site m.image then m.known else maps_of maps site image

abbrev pub untouched : ObjectsKnown
untouched = record { absent = []; there = []; blank = [] }

abbrev pub objects_known_of : List ImageObjects → SiteId → (image : ℕ) → ObjectsKnown
objects_known_of [] site image = untouched
objects_known_of (o ∷ objects) site image = if is_at site image o.site o.image then o.known
    else objects_known_of objects site image

-- whether the request removed the image's header
abbrev pub is_gone : List ImagePlace → SiteId → (image : ℕ) → Bool
is_gone = is_drawn

-- whether the request removed an object
abbrev pub is_absent : (object : ℕ) → List ℕ → Bool
is_absent object [] = false
is_absent object (x ∷ absent) = if x == object then true else is_absent object absent

-- whether an object is known to be there
abbrev pub is_there : (object : ℕ) → List ℕ → Bool
is_there = is_absent

-- ---- who

abbrev pub is_fence_of : SiteId → Instance → Fence → Bool
is_fence_of site i f = same_site f.site site && same_instance f.instance i

abbrev pub is_fenced_by : List Fence → SiteId → Instance → Bool
is_fenced_by [] site i = false
is_fenced_by (f ∷ fenced) site i = if is_fence_of site i f then true else is_fenced_by fenced site i

-- ---- what an answer teaches

-- what is known of an image's maps from now on
abbrev pub maps_told : SiteId → (image : ℕ) → MapsKnown → List ImageMaps → List ImageMaps
maps_told site image m maps = record { site = site; image = image; known = m } ∷ maps

abbrev pub unmark : ImageMaps → ImageMaps
unmark m = record m { known = record m.known { raised = [] } }

abbrev pub unmarked : List ImageMaps → List ImageMaps
unmarked = map unmark

-- At its look under the lock the request forgets what it was told of the image's maps
-- before, what it knew of objects by its own changes, and what it waited for.
abbrev pub afresh : SiteId → (image : ℕ) → Knowledge → Knowledge
afresh site image k = record k { turn = None; maps = maps_told site image unmapped (unmarked k.maps); objects = [] }

abbrev pub looked_by : (header : Option HeaderView) → SiteId → (image : ℕ) → Knowledge → Knowledge
looked_by None site image k = afresh site image k
looked_by (Some h) site image k = k

abbrev pub looked_under_lock : Option Own → SiteId → (image : ℕ) → Knowledge → Knowledge
looked_under_lock None site image k = k
looked_under_lock (Some o) site image k = looked_by o.header site image k

abbrev pub looked_behind : SiteId → (image : ℕ) → Knowledge → Knowledge
looked_behind site image k = looked_under_lock (own_of k.owns site image) site image k

-- The look under the lock tells the header. Later ones tell nothing new.
abbrev pub first_told : HeaderView → Option HeaderView → Option HeaderView
first_told h None = Some h
first_told h (Some own) = Some own

abbrev pub with_header : (Option HeaderView → Option HeaderView) → Own → Own
with_header change o = record o { header = change o.header }

abbrev pub told_of : SiteId → (image : ℕ) → (Option HeaderView → Option HeaderView) → Own → Own
told_of site image change o = if is_at site image o.site o.image then with_header change o else o

abbrev pub header_told : SiteId → (image : ℕ) → (Option HeaderView → Option HeaderView) → Knowledge → Knowledge
header_told site image change k = record k { owns = map (told_of site image change) k.owns }

abbrev pub without_drawn : SiteId → (image : ℕ) → Knowledge → Knowledge
without_drawn site image k = record k { drawn = filter (λ d. not (is_at site image d.site d.image)) k.drawn }

abbrev pub with_drawn : SiteId → (image : ℕ) → Knowledge → Knowledge
with_drawn site image k =
    record k { drawn = record { site = site; image = image } ∷ k.drawn; maps = maps_told site image unmapped k.maps }

abbrev pub with_fence : SiteId → Instance → Knowledge → Knowledge
with_fence site i k = record k { fenced = record { site = site; instance = i } ∷ k.fenced }

-- without the fence of an instance that was put up last
abbrev pub unfenced : SiteId → Instance → List Fence → List Fence
unfenced site i [] = []
unfenced site i (f ∷ fenced) = if is_fence_of site i f then fenced else f ∷ unfenced site i fenced

-- One fence serves to break one lock, and is then forgotten. So a request that goes back to ask for
-- the lock again knows what it knew before.
abbrev pub without_fence : SiteId → Instance → Knowledge → Knowledge
without_fence site i k = record k { fenced = unfenced site i k.fenced }

abbrev pub with_maps : SiteId → (image : ℕ) → (MapsKnown → MapsKnown) → Knowledge → Knowledge
with_maps site image change k = record k { maps = maps_told site image (change (maps_of k.maps site image)) k.maps }

abbrev pub is_view : (one other : Option ℕ) → Bool
is_view None None = true
is_view (Some t) (Some s) = t == s
is_view _ _ = false

abbrev pub is_mark : Option ℕ → (object : ℕ) → Mark → Bool
is_mark view object m = is_view m.view view && (m.object == object)

abbrev pub is_raised : Option ℕ → (object : ℕ) → List Mark → Bool
is_raised view object [] = false
is_raised view object (m ∷ raised) = if is_mark view object m then true else is_raised view object raised

-- A state other than 0 is remembered, and one that is set to 0 forgotten.
abbrev pub marks_after : Option ℕ → (object state : ℕ) → List Mark → List Mark
marks_after view object state raised =
    if state == 0 then filter (λ m. not (is_mark view object m)) raised
    else record { view = view; object = object } ∷ raised

-- the marks of other views than one whose map was replaced
abbrev pub marks_apart : (view : Option ℕ) → List Mark → List Mark
marks_apart view raised = filter (λ m. not (is_view m.view view)) raised

abbrev pub states_set : Option ℕ → (object state : ℕ) → Option (List ℕ) → Option (List ℕ)
states_set None object state known = option_map (λ states. slice_set states object state) known
states_set (Some snap) object state known = known

-- The states of the head are told in bits, four objects a byte. A map that was lengthened has other
-- zeros behind its states, and one whose states changed isn't a snapshot's any more. A snapshot's
-- map that was put has none of the states that were set there before.
abbrev pub learned_of_map : Knowledge → SiteId → (image : ℕ) → MapOp → Answer → Knowledge
learned_of_map k site image (states.Resize count) answer.Done =
    with_maps site image (λ m. record { raised = m.raised; states = None; count = Some count; put = None }) k
learned_of_map k site image (states.Get None) (answer.Bits bits) =
    with_maps site image (λ m. record m { states = Some (states_of bits (4 * length bits)) }) k
learned_of_map k site image (states.Put (Some snap) bits) answer.Done =
    with_maps site image (λ m. record m { raised = marks_apart (Some snap) m.raised; put = Some snap }) k
learned_of_map k site image (states.Set view object state) answer.Done =
    with_maps site image (λ m. record {
      raised = marks_after view object state m.raised;
      states = states_set view object state m.states;
      count = m.count;
      put = None;
    }) k
learned_of_map k site image (states.Remove view) answer.Done = with_maps site image (λ m. unmapped) k
learned_of_map k site image _ _ = k

-- ---- objects of the head

abbrev pub with_objects : SiteId → (image : ℕ) → (ObjectsKnown → ObjectsKnown) → Knowledge → Knowledge
with_objects site image change k =
    record k {
      objects = record { site = site; image = image; known = change (objects_known_of k.objects site image) }
          ∷ k.objects;
    }

-- the same where it counts
abbrev pub with_objects_where : (counts : Bool) → SiteId → (image : ℕ) → (ObjectsKnown → ObjectsKnown) → Knowledge
    → Knowledge
with_objects_where counts site image change k =
    record k { objects = if counts then (with_objects site image change k).objects else k.objects }

abbrev pub without_object : (object : ℕ) → List ℕ → List ℕ
without_object object objects = filter (λ x. not (x == object)) objects

-- an object that is there where this counts
abbrev pub found_where : (counts : Bool) → (object : ℕ) → ObjectsKnown → ObjectsKnown
found_where counts object o = record o { there = if counts then object ∷ o.there else o.there }

abbrev pub found : (object : ℕ) → ObjectsKnown → ObjectsKnown
found object o = record o { there = object ∷ o.there }

-- an object that is there, with any bytes
abbrev pub made : (object : ℕ) → ObjectsKnown → ObjectsKnown
made object o = record {
  absent = without_object object o.absent;
  there = object ∷ o.there;
  blank = filter (λ b. not (b.object == object)) o.blank;
}

-- an object of which some places became zeros
abbrev pub blanked : (object : ℕ) → Option (List Part) → ObjectsKnown → ObjectsKnown
blanked object parts o = record o { blank = record { object = object; parts = parts } ∷ o.blank }

-- an object that was removed
abbrev pub removed : (object : ℕ) → ObjectsKnown → ObjectsKnown
removed object o =
    blanked object None (record o { absent = object ∷ o.absent; there = without_object object o.there })

abbrev pub is_turn : Option ℕ → (object : ℕ) → Bool
is_turn None object = false
is_turn (Some turn) object = turn == object

-- Whether the request keeps all that remove objects away from one: it is alone on the image, or at
-- its turn at the object.
abbrev pub keeps_object : Option Own → (turn : Option ℕ) → (object : ℕ) → Bool
keeps_object None turn object = false
keeps_object (Some o) turn object = if is_alone o.sharing then true else is_turn turn object

-- whether an answer shows bytes of the head
abbrev pub shows_head : Answer → (snap : Option ℕ) → Bool
shows_head (answer.Bytes bytes) None = true
shows_head _ _ = false

-- whether the request knows by it that the object is there, as long as no other may remove it
abbrev pub knows_head : Knowledge → SiteId → (image number : ℕ) → (snap : Option ℕ) → Answer → Bool
knows_head k site image number snap a =
    shows_head a snap && keeps_object (own_of k.owns site image) k.turn number

-- A change of an object tells what it is then, and a read that shows bytes of its head that it is
-- there. One that must be there, or that a copy-up met, is there.
abbrev pub learned_of_object : Knowledge → SiteId → (image number : ℕ) → DataOp → Answer → Knowledge
learned_of_object k site image number (object.Read snap parts) a =
    with_objects_where (knows_head k site image number snap a) site image (found number) k
learned_of_object k site image number (object.Write context must parts bytes) answer.Done =
    with_objects site image (made number) k
learned_of_object k site image number (object.WriteFull context bytes) answer.Done =
    with_objects site image (made number) k
learned_of_object k site image number (object.CopyUp bytes) answer.Done = with_objects site image (made number) k
learned_of_object k site image number (object.CopyUp bytes) answer.Exists = with_objects site image (found number) k
learned_of_object k site image number (object.Zero context must parts) answer.Done =
    with_objects site image (λ o. blanked number (Some parts) (found_where must number o)) k
learned_of_object k site image number (object.Empty context) answer.Done =
    with_objects site image (λ o. blanked number None (made number o)) k
learned_of_object k site image number (object.Remove context) answer.Done = with_objects site image (removed number) k
learned_of_object k site image number _ _ = k

abbrev pub learned_of_listing : Knowledge → SiteId → Instance → Answer → Knowledge
learned_of_listing k site i answer.Done = with_fence site i k
learned_of_listing k site i _ = k

abbrev pub learned_of_directory : Knowledge → SiteId → DirectoryOp → Answer → Knowledge
learned_of_directory k site (directory.Add name) (answer.Id image) = with_drawn site image k
learned_of_directory k site _ _ = k

-- the images that a request knows, without one
abbrev pub owns_without : SiteId → (image : ℕ) → List Own → List Own
owns_without site image owns = filter (λ o. not (is_at site image o.site o.image)) owns

-- the head's map is there, and nothing else is known
abbrev pub only_there : MapsKnown
only_there = record { raised = []; states = None; count = Some 0; put = None }

-- An image without a header is nobody's any more. The map of its head is still there.
abbrev pub removed_header : SiteId → (image : ℕ) → Knowledge → Knowledge
removed_header site image k = record k {
  owns = owns_without site image k.owns;
  maps = maps_told site image only_there k.maps;
  gone = record { site = site; image = image } ∷ k.gone;
}

-- the objects that are there are forgotten
abbrev pub without_there : ObjectsKnown → ObjectsKnown
without_there o = record o { there = [] }

-- An image without a parent shows none of its bytes any more: so it doesn't matter from then on
-- which of its objects are there.
abbrev pub detached_header : SiteId → (image : ℕ) → Knowledge → Knowledge
detached_header site image k = header_told site image (option_map detached) (with_objects site image without_there k)

abbrev pub learned_of_header : Knowledge → SiteId → (image : ℕ) → HeaderOp → Answer → Knowledge
learned_of_header k site image header.Get (answer.Header h) =
    header_told site image (first_told h) (looked_behind site image k)
learned_of_header k site image (header.Create view) answer.Done = without_drawn site image k
learned_of_header k site image (header.SetSize to) answer.Done = header_told site image (option_map (with_size to)) k
learned_of_header k site image header.Remove answer.Done = removed_header site image k
learned_of_header k site image (header.SnapAdd name) (answer.Snap snap) =
    header_told site image (option_map (with_snap name)) k
learned_of_header k site image (header.SnapRemove snap) answer.Done =
    header_told site image (option_map (without_snap snap)) k
learned_of_header k site image header.Detach answer.Done = detached_header site image k
learned_of_header k site image (header.SnapStatus snap status) answer.Done =
    header_told site image (option_map (with_status snap status)) k
learned_of_header k site image (header.LockBreak owner) answer.Done = without_fence site owner k
learned_of_header k site image (header.LockBreak owner) answer.Changed = without_fence site owner k
learned_of_header k site image _ _ = k

-- what is known of ids, locks and images that are the request's own
abbrev pub learned_own : Knowledge → SiteId → Op → Answer → Knowledge
learned_own k site (op.Directory o) a = learned_of_directory k site o a
learned_own k site (op.Header image o) a = learned_of_header k site image o a
learned_own k site (op.Data image number o) a = learned_of_object k site image number o a
learned_own k site (op.BlockAdd instance) a = learned_of_listing k site instance a
learned_own k site (op.Map image o) a = learned_of_map k site image o a
learned_own k site _ a = k

-- What is known after an operation and its answer: beside what is the request's own, each header
-- that was told, what was read of snapshots, and what is known of children.
abbrev pub learned : Knowledge → SiteId → Op → Answer → Knowledge
learned k site o a = record (learned_own k site o a) {
  seen = seen_by k.seen site o a;
  told = told_by k.seen k.told site o a;
  linked = linked_by k.linked site o a;
  based = based_by k.linked k.based site o a;
  childless = childless_by (λ image. header_alone (own_of k.owns site image)) k.childless site o a;
}

-- ---- what a wait teaches

-- A request forgets, when it has the lock, what it knew of the image before.
abbrev pub owns_when_held : Knowledge → SiteId → (image : ℕ) → List Own
owns_when_held k site image = record { site = site; image = image; sharing = k.sharing; header = None }
    ∷ owns_without site image k.owns

-- What is known once the request may go on. A turn lasts up to the next one, or up to the end of
-- the request's event. What the request knows of an object by its own changes lasts as long, since
-- another request may lower a state, or change the object, in its own turn. And that a snapshot has
-- no child it knows as long as it knows the image's header.
abbrev pub known_after_wait : Knowledge → Wait → Knowledge
known_after_wait k (wait.Join site image sharing) = record k { sharing = sharing }
known_after_wait k (wait.Hold site image) =
    record k {
      owns = owns_when_held k site image;
      objects = [];
      childless = snaps_of_others site image k.childless;
    }
known_after_wait k (wait.Turn object) = record k { turn = Some object; maps = unmarked k.maps; objects = [] }
known_after_wait k (wait.Applied site image) = record k { turn = None; maps = unmarked k.maps; objects = [] }
known_after_wait k (wait.Leave site image) =
    record k { owns = owns_without site image k.owns; childless = snaps_of_others site image k.childless }
