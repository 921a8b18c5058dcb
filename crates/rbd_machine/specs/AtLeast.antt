-- Who knows at least as much as another: it may do all that the other may.
use Rattle.std.specs.Prelude.{◌≡◌, ℕ, true, Any, Option, Some, IfSome}
use Rattle.rbd_kinds.specs.declared.id.SiteId.{SiteId}
use Rattle.rbd_machine.specs.Ancestors.{HeaderSeen, IsAmong, ObjectTold, ChildBase, ChildLink, SnapPlace}
use Rattle.rbd_machine.specs.Knowledge.{Knowledge, MapsKnown, ObjectsKnown, is_absent, is_drawn, is_gone, is_raised, is_there, maps_of, objects_known_of}
use Rattle.rbd_machine.specs.Permits.{IsInParts}

-- what the one was told was told to the other
abbrev pub IsToldToo : {T : Type 0} → (more less : Option T) → Type 0
IsToldToo more less = IfSome less (λ told. more ≡ Some told)

-- of object maps
pub record AreMapsAtLeast (more less : MapsKnown) : Type 0 where
  pub raised : (view : Option ℕ) (object : ℕ) → is_raised view object less.raised ≡ true
      → is_raised view object more.raised ≡ true
  pub states : IsToldToo more.states less.states
  pub count : IsToldToo more.count less.count
  pub put : IsToldToo more.put less.put

-- an image byte that the request made zero in its object
abbrev pub IsBlankAt : ObjectsKnown → (object x : ℕ) → Type 0
IsBlankAt o object x = Any (λ b. (b.object ≡ object) × IsInParts b.parts x) o.blank

-- of objects of the head
pub record AreObjectsAtLeast (more less : ObjectsKnown) : Type 0 where
  pub absent : (object : ℕ) → is_absent object less.absent ≡ true → is_absent object more.absent ≡ true
  pub there : (object : ℕ) → is_there object less.there ≡ true → is_there object more.there ≡ true
  pub blank : (object x : ℕ) → IsBlankAt less object x → IsBlankAt more object x

-- The one knows all that the other knows. Of headers that it relies on, of its turn and of its
-- fences it knows just the same: these it uses up.
pub record KnowsAtLeast (more less : Knowledge) : Type 0 where
  pub sharing : more.sharing ≡ less.sharing
  pub owns : more.owns ≡ less.owns
  pub turn : more.turn ≡ less.turn
  pub fenced : more.fenced ≡ less.fenced
  pub drawn : (site : SiteId) (image : ℕ) → is_drawn less.drawn site image ≡ true
      → is_drawn more.drawn site image ≡ true
  pub maps : (site : SiteId) (image : ℕ) → AreMapsAtLeast (maps_of more.maps site image) (maps_of less.maps site image)
  pub objects : (site : SiteId) (image : ℕ)
      → AreObjectsAtLeast (objects_known_of more.objects site image) (objects_known_of less.objects site image)
  pub gone : (site : SiteId) (image : ℕ) → is_gone less.gone site image ≡ true → is_gone more.gone site image ≡ true
  pub seen : (seen : HeaderSeen) → IsAmong seen less.seen → IsAmong seen more.seen
  pub told : (told : ObjectTold) → IsAmong told less.told → IsAmong told more.told
  pub linked : (l : ChildLink) → IsAmong l less.linked → IsAmong l more.linked
  pub based : (b : ChildBase) → IsAmong b less.based → IsAmong b more.based
  pub childless : (p : SnapPlace) → IsAmong p less.childless → IsAmong p more.childless
