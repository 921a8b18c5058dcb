-- `snap create` and `snap rm`: what refuses one, what has been done when it is done, and what their
-- replies mean.
use Rattle.std.specs.Prelude.{◌≡◌, ◌⊎◌, ℕ, ◌+◌, List, [], ◌∷◌, Bool, true, false, if◌then◌else◌, Option, Some, None, is_some}
use Rattle.rbd_kinds.specs.declared.answer.Answer.{Answer}
use Rattle.rbd_kinds.specs.declared.answer.Answer.TheVariants as answer
use Rattle.rbd_kinds.specs.declared.header.HeaderView.{HeaderView}
use Rattle.rbd_kinds.specs.declared.header.SnapStatus.{SnapStatus}
use Rattle.rbd_kinds.specs.declared.header.SnapStatus.TheVariants.{Unprotected}
use Rattle.rbd_kinds.specs.declared.header.SnapView.{SnapView}
use Rattle.rbd_kinds.specs.declared.header_op.HeaderOp.TheVariants as header
use Rattle.rbd_kinds.specs.declared.id.SiteId.{SiteId}
use Rattle.rbd_kinds.specs.declared.map_op.MapOp.TheVariants as states
use Rattle.rbd_kinds.specs.declared.operation.Op.TheVariants as op
use Rattle.rbd_commands.specs.declared.refusal.Refusal.{Refusal}
use Rattle.rbd_commands.specs.declared.refusal.Refusal.TheVariants as refusal
use Rattle.rbd_kinds.specs.declared.reply.Reply.{Reply}
use Rattle.rbd_kinds.specs.declared.reply.Reply.TheVariants as reply
use Rattle.rbd_kinds.specs.Header.{snap_named}
use Rattle.rbd_header.specs.Header.{is_full}
use Rattle.rbd_machine.specs.About.{look_up}
use Rattle.rbd_machine.specs.Path.{Answered, found, looked_at}
use Rattle.rbd_machine.specs.Refused.{by_fence, never, AreLooks, IsRefused}
use Rattle.rbd_machine.specs.Steps.{or_else, non_primary}

-- ---- refusals

-- the name is listed, or no more snapshots can be
abbrev pub create_refuses : (snap : List ℕ) → HeaderView → Option Refusal
create_refuses snap h =
    or_else (non_primary h.role)
    (if is_some (snap_named h.snaps snap) then Some refusal.SnapExists
    else if is_full h then Some refusal.BadShape
    else None)

abbrev pub is_unprotected : SnapStatus → Bool
is_unprotected Unprotected = true
is_unprotected _ = false

-- the name isn't listed, or its snapshot may have clones
abbrev pub removal_refusal : Option SnapView → Option Refusal
removal_refusal None = Some refusal.NoSnap
removal_refusal (Some snap) = if is_unprotected snap.status then None else Some refusal.SnapProtected

abbrev pub remove_refuses : (snap : List ℕ) → HeaderView → Option Refusal
remove_refuses snap h = or_else (non_primary h.role) (removal_refusal (snap_named h.snaps snap))

-- ---- what was done

-- the states of the head's map were told, in bits
abbrev pub map_told : SiteId → (image : ℕ) → (bits : List ℕ) → Answered
map_told site image bits = record { site = site; op = op.Map image (states.Get None); answer = answer.Bits bits }

-- the told states became the map of a snapshot
abbrev pub map_put : SiteId → (image snap : ℕ) → (bits : List ℕ) → Answered
map_put site image snap bits =
    record { site = site; op = op.Map image (states.Put (Some snap) bits); answer = answer.Done }

-- the map of a snapshot was to be removed
abbrev pub map_removed : SiteId → (image snap : ℕ) → Answer → Answered
map_removed site image snap a = record { site = site; op = op.Map image (states.Remove (Some snap)); answer = a }

-- the map is gone, whether it was there or not
abbrev pub IsGone : Answer → Type 0
IsGone answer.Done = Unit {0}
IsGone answer.Absent = Unit {0}
IsGone _ = ⊥

-- The request found its image and looked at the header twice, and neither look refused it; then the
-- head's map was copied for the next snapshot, and the header took the snapshot.
pub record TakesOne (site : SiteId) (image_name snap : List ℕ) (steps : List Answered) : Type 0 where
  pub image : ℕ
  pub first : HeaderView
  pub own : HeaderView
  pub may_wait : create_refuses snap first ≡ None
  pub may : create_refuses snap own ≡ None
  pub bits : List ℕ
  pub taken : ℕ
  pub are : steps ≡ found site image_name image ∷ looked_at site image first ∷ looked_at site image own
      ∷ map_told site image bits ∷ map_put site image (own.snap_seq + 1) bits
      ∷ record { site = site; op = op.Header image (header.SnapAdd snap); answer = answer.Snap taken } ∷ []

-- the snapshot was removed
abbrev pub snap_removed : SiteId → (image snap : ℕ) → Answered
snap_removed site image snap =
    record { site = site; op = op.Header image (header.SnapRemove snap); answer = answer.Done }

-- The looks are the same. The snapshot that goes is the one that its look under the lock listed
-- under the name, and then its map goes.
pub record RemovesOne (site : SiteId) (image_name snap : List ℕ) (steps : List Answered) : Type 0 where
  pub image : ℕ
  pub first : HeaderView
  pub own : HeaderView
  pub may_wait : remove_refuses snap first ≡ None
  pub may : remove_refuses snap own ≡ None
  pub listed : SnapView
  pub is_listed : snap_named own.snaps snap ≡ Some listed
  pub gone : Answer
  pub is_gone : IsGone gone
  pub are : steps ≡ found site image_name image ∷ looked_at site image first ∷ looked_at site image own
      ∷ snap_removed site image listed.id ∷ map_removed site image listed.id gone ∷ []

-- The same, and nothing was done about the map.
pub record RemovesListed (site : SiteId) (image_name snap : List ℕ) (steps : List Answered) : Type 0 where
  pub image : ℕ
  pub first : HeaderView
  pub own : HeaderView
  pub may_wait : remove_refuses snap first ≡ None
  pub may : remove_refuses snap own ≡ None
  pub listed : SnapView
  pub is_listed : snap_named own.snaps snap ≡ Some listed
  pub are : steps ≡ found site image_name image ∷ looked_at site image first ∷ looked_at site image own
      ∷ snap_removed site image listed.id ∷ []

-- The request was refused, and had only looked before, or removed the snapshot.
pub record RefusesRemoval (site : SiteId) (image_name snap : List ℕ) (steps : List Answered)
    (x : Refusal) : Type 0 where
  pub refused : IsRefused site (look_up image_name) (remove_refuses snap) by_fence steps x
  pub so_far : AreLooks refused.by.before ⊎ RemovesListed site image_name snap refused.by.before

-- ---- what their replies mean

abbrev pub SnapCreateMeans : SiteId → (image snap : List ℕ) → List Answered → Reply → Type 0
SnapCreateMeans site image snap steps reply.Done = TakesOne site image snap steps
SnapCreateMeans site image snap steps (reply.Refused x) =
    IsRefused site (look_up image) (create_refuses snap) never steps x
SnapCreateMeans site image snap steps _ = ⊥

abbrev pub SnapRemoveMeans : SiteId → (image snap : List ℕ) → List Answered → Reply → Type 0
SnapRemoveMeans site image snap steps reply.Done = RemovesOne site image snap steps
SnapRemoveMeans site image snap steps (reply.Refused x) = RefusesRemoval site image snap steps x
SnapRemoveMeans site image snap steps _ = ⊥
