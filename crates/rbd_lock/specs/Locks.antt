-- What a client counts of the locks of its images, and what changes it.
use Rattle.std.specs.Prelude.{ℕ, ◌<◌, nat_eq, Bool, true, false, not, ◌&&◌, List, Option, None, Some, IfSome, IsFalse, IsTrue, if◌then◌else◌}
use Rattle.std.specs.HashMap.{HashMap, get}
use Rattle.std.specs.List.Sorted.{IsStrictlySortedBy}
use Rattle.std.specs.Map.{lookup}
use Rattle.rbd_kinds.specs.declared.answer.Answer.{Answer}
use Rattle.rbd_kinds.specs.declared.answer.Answer.TheVariants as answer
use Rattle.rbd_kinds.specs.declared.header_op.HeaderOp.TheVariants as header
use Rattle.rbd_kinds.specs.declared.id.SiteId.{SiteId}
use Rattle.rbd_kinds.specs.declared.notice.Notice.{Notice}
use Rattle.rbd_kinds.specs.declared.operation.Op.{Op}
use Rattle.rbd_kinds.specs.declared.operation.Op.TheVariants as op
use Rattle.rbd_kinds.specs.declared.image_at.ImageAt.{ImageAt}
use Rattle.rbd_lock.specs.declared.lock_state.LockState.{LockState}
use Rattle.rbd_lock.specs.declared.noted.Noted.{Noted}
use Rattle.rbd_kinds.specs.Images.{image_cmp, is_at, key_of}
use Rattle.rbd_lock.specs.Places.{is_among}
use Rattle.rbd_lock.specs.States.{answered, told_state}

-- ---- the view

-- what contracts see: what is noted of images by key, those that were asked for, and for how many
-- more images there is room
pub record LocksView : Type 0 where
  pub entries : List (ℕ × Noted)
  pub asked : List ImageAt
  pub room : ℕ

abbrev pub nothing : Noted
nothing = record { owned = false; watched = false; quiesced = false }

abbrev pub is_blank : Noted → Bool
is_blank n = not n.owned && (not n.watched && not n.quiesced)

abbrev pub noted_or : Option Noted → Noted
noted_or None = nothing
noted_or (Some n) = n

abbrev pub noted_in : {S : Type 0} → (table : HashMap ℕ Noted S) → (key : ℕ) → Noted
noted_in table key = noted_or (get nat_eq table key)

abbrev pub with_asked : Bool → Noted → LockState
with_asked asked n = record { owned = n.owned; watched = n.watched; asked = asked; quiesced = n.quiesced }

-- the state of an image at a site
abbrev pub lock_state_at : SiteId → (image : ℕ) → LocksView → LockState
lock_state_at site image l = with_asked (is_among site image l.asked)
    (noted_or (lookup (nat_eq (key_of site image)) l.entries))

-- something is noted of each image that is in the table
abbrev pub AreNoted : List (ℕ × Noted) → Type 0
AreNoted entries = (key : ℕ) → IfSome (lookup (nat_eq key) entries) (λ n. IsFalse (is_blank n))

-- images stand in order: by site, then by id
abbrev pub AreImagesInOrder : List ImageAt → Type 0
AreImagesInOrder places = IsStrictlySortedBy image_cmp places

-- Only a lock that the client counts as its own is asked for, and the images whose locks were
-- asked for stand in order. No image is held of which nothing is noted.
pub record IsSoundLocks (l : LocksView) : Type 0 where
  pub owned : (site : SiteId) (image : ℕ) → IsTrue (is_among site image l.asked)
      → IsTrue (lock_state_at site image l).owned
  pub order : AreImagesInOrder l.asked
  pub few : AreNoted l.entries

-- ---- what changes it

-- the state of one image changes, and of no other
abbrev pub changed_at : SiteId → (image : ℕ) → (LockState → LockState) → SiteId → (other : ℕ) → LockState → LockState
changed_at site image change there other s = if is_at site image there other then change s else s

-- an operation of the client at a site was answered
abbrev pub counted : SiteId → Op → Answer → SiteId → (image : ℕ) → LockState → LockState
counted site (op.Header on o) a = changed_at site on (answered o a)
counted site o a = λ there image s. s

-- a notice was heard
abbrev pub heard : Notice → SiteId → (image : ℕ) → LockState → LockState
heard n = changed_at n.site n.image (told_state n.kind)

-- what may be the first that is noted of an image
abbrev pub begins : Op → Answer → Bool
begins (op.Header image header.LockTake) answer.Done = true
begins (op.Header image header.Watch) answer.Done = true
begins o a = false

-- ---- room

abbrev pub noted_of : LockState → Noted
noted_of s = record { owned = s.owned; watched = s.watched; quiesced = s.quiesced }

-- where nothing was noted of an image, nothing is noted after the change
abbrev pub StaysBlank : (before after : LockState) → Type 0
StaysBlank before after = IsTrue (is_blank (noted_of before)) → IsTrue (is_blank (noted_of after))

-- room is needed only for an image of which nothing was noted before
abbrev pub IsRoomForState : (before after : LockState) → (room : ℕ) → Type 0
IsRoomForState before after room = IsTrue (is_blank (noted_of before)) → IsFalse (is_blank (noted_of after)) → 0 < room

-- an image counts as asked for only if it did before and its lock counts as owned
abbrev pub StaysAsked : (before after : LockState) → Type 0
StaysAsked before after = IsTrue after.asked → IsTrue before.asked × IsTrue after.owned
