-- Who watches an image's header, in order of registration.
use Rattle.std.specs.Prelude.{ℕ, Bool, not, ◌==◌, List, [], ◌∷◌, ◌++◌, if◌then◌else◌, Option, Some, None, nat_le}
use Rattle.std.specs.List.{filter, list_any}
use Rattle.rbd_kinds.specs.declared.id.Instance.{Instance}
use Rattle.rbd_kinds.specs.Instances.{same_instance}

abbrev pub watches : Instance → List Instance → Bool
watches instance watchers = list_any (same_instance instance) watchers

-- a new watcher stands at the end, and one that watches keeps its place
abbrev pub registered : Instance → List Instance → List Instance
registered instance watchers = if watches instance watchers then watchers else watchers ++ instance ∷ []

-- the others, in their order
abbrev pub without : Instance → List Instance → List Instance
without instance watchers = filter (λ w. not (same_instance instance w)) watchers

-- whether an instance of another session watches
abbrev pub other_watches : (session : ℕ) → List Instance → Bool
other_watches session watchers = list_any (λ w. not (w.session == session)) watchers

-- of two instances, the one that began earlier
abbrev pub older : Option Instance → Option Instance → Option Instance
older None other = other
older (Some one) None = Some one
older (Some one) (Some other) = if nat_le one.life other.life then Some one else Some other

-- the oldest instance of a session that watches
abbrev pub oldest_of : (session : ℕ) → (watchers : List Instance) → Option Instance
oldest_of session [] = None
oldest_of session (w ∷ watchers) = older (if w.session == session then Some w else None) (oldest_of session watchers)
