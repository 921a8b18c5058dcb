-- What comes to a client, one thing after another, and what it counts then.
use Rattle.std.specs.Prelude.{ℕ, Bool, true, false, List, [], ◌∷◌, if◌then◌else◌}
use Rattle.rbd_kinds.specs.declared.answer.Answer.{Answer}
use Rattle.rbd_kinds.specs.declared.answer.Answer.TheVariants as answer
use Rattle.rbd_kinds.specs.declared.header_op.HeaderOp.TheVariants as header
use Rattle.rbd_kinds.specs.declared.id.SiteId.{SiteId}
use Rattle.rbd_kinds.specs.declared.notice.Notice.{Notice}
use Rattle.rbd_kinds.specs.declared.operation.Op.{Op}
use Rattle.rbd_kinds.specs.declared.operation.Op.TheVariants as op
use Rattle.rbd_lock.specs.declared.lock_state.LockState.{LockState}
use Rattle.rbd_lock.specs.Locks.{changed_at, counted, heard}
use Rattle.rbd_kinds.specs.Images.{is_at}
use Rattle.rbd_lock.specs.States.{quieted, resumed}

-- an operation of the client was answered, a notice was heard, an image was quiesced, or a quiesce
-- ended
pub data Coming : Type 0 where
  ByAnswer : (site : SiteId) (o : Op) (a : Answer) → Coming
  ByNotice : (n : Notice) → Coming
  ByQuiesce : (site : SiteId) (image : ℕ) → Coming
  ByResume : (site : SiteId) (image : ℕ) → Coming

abbrev pub after_one : Coming → SiteId → (image : ℕ) → LockState → LockState
after_one (ByAnswer there o a) = counted there o a
after_one (ByNotice n) = heard n
after_one (ByQuiesce there on) = changed_at there on quieted
after_one (ByResume there on) = changed_at there on resumed

-- the state of an image behind all of them
abbrev pub after_all : List Coming → SiteId → (image : ℕ) → LockState → LockState
after_all [] site image s = s
after_all (c ∷ comings) site image s = after_all comings site image (after_one c site image s)

-- ---- which are of an image at a site

abbrev pub is_of : SiteId → (image : ℕ) → Coming → Bool
is_of site image (ByAnswer there (op.Header on o) a) = is_at there on site image
is_of site image (ByAnswer there o a) = false
is_of site image (ByNotice n) = is_at n.site n.image site image
is_of site image (ByQuiesce there on) = is_at there on site image
is_of site image (ByResume there on) = is_at there on site image

-- whether the image's lock was taken by this
abbrev pub is_take : SiteId → (image : ℕ) → Coming → Bool
is_take site image (ByAnswer there (op.Header on header.LockTake) answer.Done) = is_at there on site image
is_take site image c = false

-- whether the image's lock ended by this: a drop of it was answered, whatever the answer, or the
-- header was removed
abbrev pub is_end : SiteId → (image : ℕ) → Coming → Bool
is_end site image (ByAnswer there (op.Header on header.LockDrop) a) = is_at there on site image
is_end site image (ByAnswer there (op.Header on header.Remove) answer.Done) = is_at there on site image
is_end site image c = false

-- ---- whether its lock counts as owned

-- whether the lock counts as owned after one more operation of the client on that image, whatever
-- else is counted
abbrev pub owns_after : (owned : Bool) → Op → Answer → Bool
owns_after owned (op.Header image header.LockTake) answer.Done = true
owns_after owned (op.Header image header.LockDrop) a = false
owns_after owned (op.Header image header.Remove) answer.Done = false
owns_after owned o a = owned

-- whether the lock counts as owned after all that came, of which only the operations on that image
-- count
abbrev pub owned_since : SiteId → (image : ℕ) → (owned : Bool) → List Coming → Bool
owned_since site image owned [] = owned
owned_since site image owned (ByAnswer there (op.Header on o) a ∷ comings) =
    owned_since site image (if is_at there on site image then owns_after owned (op.Header on o) a else owned) comings
owned_since site image owned (c ∷ comings) = owned_since site image owned comings
