-- Which locks an instance counts as its own along a run: by its own operations alone.
use Rattle.std.specs.Prelude.{◌≡◌, ℕ, Bool, false, List, [], ◌∷◌, if◌then◌else◌}
use Rattle.rbd_client.specs.Client.{ClientView}
use Rattle.rbd_kinds.specs.Instances.{same_instance}
use Rattle.rbd_kinds.specs.declared.id.Instance.{Instance}
use Rattle.rbd_kinds.specs.declared.id.SiteId.{SiteId}
use Rattle.rbd_lock.specs.Comings.{Coming, ByAnswer, owned_since}
use Rattle.rbd_lock.specs.Locks.{lock_state_at}
use Rattle.rbd_world.specs.Run.{Happening, Did}

-- the answers that an instance gets
abbrev pub comes_to : Instance → Happening → List Coming
comes_to who (Did o reply) = if same_instance o.instance who then ByAnswer o.site o.op o.answer ∷ [] else []
comes_to who h = []

-- whether it counts the lock of an image as its own behind a run
abbrev pub owns_in : Instance → SiteId → (image : ℕ) → List Happening → Bool
owns_in who s image [] = false
owns_in who s image (h ∷ run) = owned_since s image (owns_in who s image run) (comes_to who h)

-- a client counts each image's lock as the run says
abbrev pub CountsItsLocks : {R : Type 0} → Instance → List Happening → ClientView R → Type 0
CountsItsLocks who run c = (s : SiteId) (image : ℕ) → (lock_state_at s image c.locks).owned ≡ owns_in who s image run
