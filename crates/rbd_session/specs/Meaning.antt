-- What a `close` has done, wherever it stands or ends.
use Rattle.std.specs.Prelude.{◌≡◌, ◌⊎◌, ℕ, List, [], ◌∷◌}
use Rattle.rbd_session.specs.Close.{unwatch}
use Rattle.rbd_kinds.specs.declared.answer.Answer.{Answer}
use Rattle.rbd_kinds.specs.declared.answer.Answer.TheVariants as answer
use Rattle.rbd_kinds.specs.declared.id.SiteId.{SiteId}
use Rattle.rbd_kinds.specs.declared.operation.Op.{Op}
use Rattle.rbd_machine.specs.About.{look_up}
use Rattle.rbd_machine.specs.Path.{Answered, found}
use Rattle.rbd_lock.specs.Order.{EndsWith}
use Rattle.rbd_lock.specs.Steps.{lock_drop, released_lock}

-- an operation that was answered so
abbrev pub answered_with : SiteId → Op → Answer → Answered
answered_with site o a = record { site = site; op = o; answer = a }

-- ---- what a close did, up to any end of it

-- the watch was let go, and that was the last
abbrev pub EndsWatch : SiteId → (image : ℕ) → List Answered → Type 0
EndsWatch site image behind = (a : Answer) × (behind ≡ answered_with site (unwatch image) a ∷ [])

-- The watchers are told that the lock was let go, and where that is done the watch is let go.
abbrev pub EndsWatchOnceTold : SiteId → (image : ℕ) → (told : Answer) → (behind : List Answered) → Type 0
EndsWatchOnceTold site image answer.Done behind = EndsWatch site image behind
EndsWatchOnceTold site image told behind = behind ≡ []

pub record TellsOfRelease (site : SiteId) (image : ℕ) (behind : List Answered) : Type 0 where
  pub told : Answer
  pub rest : List Answered
  pub are : behind ≡ answered_with site (released_lock image) told ∷ rest
  pub ends_watch : EndsWatchOnceTold site image told rest

-- A drop that was done is told of, and no other. The watch is let go once that was told, or where
-- the lock was another's, or nobody's.
abbrev pub GoesOnBehind : SiteId → (image : ℕ) → (dropped : Answer) → (behind : List Answered) → Type 0
GoesOnBehind site image answer.Done behind = TellsOfRelease site image behind
GoesOnBehind site image answer.Changed behind = EndsWatch site image behind
GoesOnBehind site image dropped behind = behind ≡ []

-- The image was found, and its lock was dropped.
pub record LetsGoByName (site : SiteId) (name : List ℕ) (steps : List Answered) : Type 0 where
  pub image : ℕ
  pub dropped : Answer
  pub behind : List Answered
  pub are : steps ≡ found site name image ∷ answered_with site (lock_drop image) dropped ∷ behind
  pub goes_on : GoesOnBehind site image dropped behind

-- It wasn't found, and nothing else was done.
pub record IsNotFound (site : SiteId) (name : List ℕ) (steps : List Answered) : Type 0 where
  pub told : Answer
  pub are : steps ≡ answered_with site (look_up name) told ∷ []

abbrev pub Ends : SiteId → (name : List ℕ) → List Answered → Type 0
Ends site name steps = LetsGoByName site name steps ⊎ IsNotFound site name steps

-- ---- what stands behind what, wherever a close stands or ends

-- its second operation is the drop, of the image that the first found
pub record IsDropBehind (site : SiteId) (name : List ℕ) (first second : Answered) : Type 0 where
  pub image : ℕ
  pub dropped : Answer
  pub finds : first ≡ found site name image
  pub drops : second ≡ answered_with site (lock_drop image) dropped

-- the last was a drop that found the lock to be another's, or the notice of one that was done
abbrev pub IsBehindLettingGo : SiteId → (image : ℕ) → (before : List Answered) → Type 0
IsBehindLettingGo site image before =
    EndsWith (answered_with site (lock_drop image) answer.Changed) before
    ⊎ EndsWith (answered_with site (released_lock image) answer.Done) before
