-- Whether a session counts a lock as its own behind some steps.
use Rattle.std.proofs.Common.{◌≡◌, ℕ, Bool, true, List, [], ◌∷◌, ◌++◌, refl}
use Rattle.rbd_kinds.specs.declared.id.SiteId.{SiteId}
use Rattle.rbd_lock.specs.Comings.{owns_after}
use Rattle.rbd_machine.specs.Path.{Answered}
use Rattle.rbd_lock.specs.Steps.{taken}
use Rattle.rbd_lock.specs.Waiting.{owned_by}

pub owned_at_last : (owned : Bool) (before : List Answered) (site : SiteId) (image : ℕ) → owned_by owned (before ++ taken site image ∷ []) ≡ true
owned_at_last owned [] site image = refl
owned_at_last owned (s ∷ before) site image = owned_at_last (owns_after owned s.op s.answer) before site image
