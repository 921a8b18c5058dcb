-- Who watched an image, and whether its watch was ended since.
use Rattle.std.specs.Prelude.{◌≡◌, ℕ, ◌&&◌, ◌||◌, not, if◌then◌else◌, Bool, true, false, List, [], ◌∷◌}
use Rattle.std.specs.List.{list_any}
use Rattle.rbd_client.specs.declared.slot_state.Way.{Way}
use Rattle.rbd_client.specs.declared.slot_state.Way.TheVariants as way
use Rattle.rbd_client.specs.Client.{ClientView, slot_state}
use Rattle.rbd_kinds.specs.declared.answer.Answer.{Answer}
use Rattle.rbd_kinds.specs.declared.answer.Answer.TheVariants as answer
use Rattle.rbd_kinds.specs.declared.header_op.HeaderOp.TheVariants as header
use Rattle.rbd_kinds.specs.declared.id.Instance.{Instance}
use Rattle.rbd_kinds.specs.declared.id.SiteId.{SiteId}
use Rattle.rbd_kinds.specs.declared.operation.Op.{Op}
use Rattle.rbd_kinds.specs.declared.operation.Op.TheVariants as op
use Rattle.rbd_kinds.specs.Images.{is_at}
use Rattle.rbd_kinds.specs.Instances.{same_instance}
use Rattle.rbd_lock.specs.Locks.{lock_state_at}
use Rattle.rbd_lock.specs.Steps.{lock_take}
use Rattle.rbd_lock.specs.declared.acquire.Stage.{Stage}
use Rattle.rbd_lock.specs.declared.acquire.Stage.TheVariants as stage
use Rattle.rbd_world.specs.Run.{Happening, Did, Expired}

-- whether an operation that was done watches the image, at its site
abbrev pub is_watch : SiteId → Op → Answer → SiteId → (image : ℕ) → Bool
is_watch there (op.Header on header.Watch) answer.Done s image = is_at there on s image
is_watch there o a s image = false

-- whether the instance does so here
abbrev pub watches_by : Instance → SiteId → (image : ℕ) → Happening → Bool
watches_by who s image (Did o reply) = same_instance o.instance who && is_watch o.site o.op o.answer s image
watches_by who s image h = false

abbrev pub has_watched : Instance → SiteId → (image : ℕ) → List Happening → Bool
has_watched who s image run = list_any (watches_by who s image) run

-- ---- how a watch ends

-- whether the instance ends its own watch here, by an `unwatch` that is done
abbrev pub ends_own : Instance → SiteId → (me : Instance) → Op → Answer → SiteId → (image : ℕ) → Bool
ends_own who there me (op.Header on header.Unwatch) answer.Done s image = is_at there on s image && same_instance me who
ends_own who there me o a s image = false

-- whether the watch ends here by the instance itself, or with the header, whoever removes that
abbrev pub ends_it : Instance → SiteId → (me : Instance) → Op → Answer → SiteId → (image : ℕ) → Bool
ends_it who there me (op.Header on header.Remove) answer.Done s image = is_at there on s image
ends_it who there me o a s image = ends_own who there me o a s image

-- whether the store ends the watch here
abbrev pub expires : Instance → SiteId → (image : ℕ) → Happening → Bool
expires who s image (Expired there number on i) = is_at there on s image && same_instance i who
expires who s image h = false

abbrev pub ends_watch : Instance → SiteId → (image : ℕ) → Happening → Bool
ends_watch who s image (Did o reply) = ends_it who o.site o.instance o.op o.answer s image
ends_watch who s image h = expires who s image h

-- whether the watch was ended since the instance watched last
abbrev pub has_watch_ended : Instance → SiteId → (image : ℕ) → List Happening → Bool
has_watch_ended who s image [] = false
has_watch_ended who s image (h ∷ run) = if watches_by who s image h then false
    else (ends_watch who s image h || has_watch_ended who s image run)

-- whether the store ended the watch since the instance watched last
abbrev pub watch_expired : Instance → SiteId → (image : ℕ) → List Happening → Bool
watch_expired who s image [] = false
watch_expired who s image (h ∷ run) = if watches_by who s image h then false
    else (expires who s image h || watch_expired who s image run)

-- ---- who keeps its watch

abbrev pub unwatches_by : Instance → SiteId → (image : ℕ) → Happening → Bool
unwatches_by who s image (Did o reply) = ends_own who o.site o.instance o.op o.answer s image
unwatches_by who s image h = false

-- The instance watched, and did no `unwatch` since.
abbrev pub keeps_watch : Instance → SiteId → (image : ℕ) → List Happening → Bool
keeps_watch who s image [] = false
keeps_watch who s image (h ∷ run) =
    watches_by who s image h || (not (unwatches_by who s image h) && keeps_watch who s image run)

-- ---- who takes a lock

-- An operation that takes the lock of an image comes only where the instance watched the image and
-- didn't end the watch itself since.
abbrev pub TakesBehindWatch : Instance → SiteId → Op → List Happening → Type 0
TakesBehindWatch who s o run = (image : ℕ) → o ≡ lock_take image → keeps_watch who s image run ≡ true

-- ---- what a client counts

-- A way that is past its watch keeps it.
abbrev pub HasWatchedAt : Stage → Instance → SiteId → (image : ℕ) → List Happening → Type 0
HasWatchedAt stage.Watching who s image run = Unit {0}
HasWatchedAt at who s image run = keeps_watch who s image run ≡ true

abbrev pub HasWatchedOn : Way → Instance → List Happening → Type 0
HasWatchedOn (way.On a) who run = HasWatchedAt a.stage who a.site a.image run
HasWatchedOn w who run = Unit {0}

-- The client counts as watched only images that it watched, and whose watch it didn't end itself
-- since. No way to a lock is past its watch unless that was done.
pub record CountsItsWatches {R : Type 0} (who : Instance) (run : List Happening) (c : ClientView R) : Type 0 where
  pub counts : (s : SiteId) (image : ℕ) → (lock_state_at s image c.locks).watched ≡ true
      → keeps_watch who s image run ≡ true
  pub ways : (slot : ℕ) → HasWatchedOn (slot_state slot c.slots).way who run
