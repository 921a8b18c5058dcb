-- What a request knows of single objects by its own changes, and by what it read, beside others
-- that change the image too.
use Rattle.std.specs.Prelude.{◌≡◌, ◌≢◌, ◌⊎◌, ℕ, true, false, Any, Some, None, IsSome}
use Rattle.rbd_kinds.specs.declared.id.SiteId.{SiteId}
use Rattle.rbd_kinds.specs.declared.sharing.Sharing.TheVariants.{Flatten}
use Rattle.rbd_machine.specs.Knowledge.{Knowledge, is_absent, is_raised, is_there, maps_of, objects_known_of}
use Rattle.rbd_machine.specs.Permits.{makes_zeros}
use Rattle.rbd_interference.specs.Truth.{is_alone_on, known_header, sharing_on}

-- the request raised the object's state in the head's map
abbrev pub KnowsRaised : Knowledge → SiteId → (image object : ℕ) → Type 0
KnowsRaised k site image object = is_raised None object (maps_of k.maps site image).raised ≡ true

-- it removed the object, or made places of it zeros
abbrev pub KnowsAbsent : Knowledge → SiteId → (image object : ℕ) → Type 0
KnowsAbsent k site image object = (is_absent object (objects_known_of k.objects site image).absent ≡ true)
    ⊎ Any (λ b. b.object ≡ object) (objects_known_of k.objects site image).blank

-- it changed the object, or read it
abbrev pub KnowsThere : Knowledge → SiteId → (image object : ℕ) → Type 0
KnowsThere k site image object = is_there object (objects_known_of k.objects site image).there ≡ true

abbrev pub KnowsOf : Knowledge → SiteId → (image object : ℕ) → Type 0
KnowsOf k site image object =
    KnowsRaised k site image object ⊎ (KnowsAbsent k site image object ⊎ KnowsThere k site image object)

-- A request that isn't alone on an image knows of an object only in its turn there: the others keep
-- out of that object, and may change any other. A flatten takes no turns.
abbrev pub KnowsByTurns : Knowledge → Type 0
KnowsByTurns k = (site : SiteId) (image : ℕ) → IsSome (known_header k site image)
    → is_alone_on k site image ≡ false → sharing_on k site image ≢ Flatten
    → (object : ℕ) → KnowsOf k site image object → k.turn ≡ Some object

-- Who knows of an object that it isn't there, or of places that they are zeros, is one that makes
-- zeros, and so beside no flatten.
abbrev pub KnowsByZeros : Knowledge → Type 0
KnowsByZeros k = (site : SiteId) (image : ℕ) → IsSome (known_header k site image)
    → (object : ℕ) → KnowsAbsent k site image object → makes_zeros (sharing_on k site image) ≡ true

abbrev pub KnowsInTurn : Knowledge → Type 0
KnowsInTurn k = KnowsByTurns k × KnowsByZeros k
