-- `snap rollback`: what refuses one, what has been done when it is done, and what its replies mean.
use Rattle.std.specs.Prelude.{◌≡◌, ◌⊎◌, ℕ, List, ◌∷◌, ◌++◌, Option, Some, None}
use Rattle.rbd_kinds.specs.declared.header.HeaderView.{HeaderView}
use Rattle.rbd_kinds.specs.declared.header.SnapView.{SnapView}
use Rattle.rbd_kinds.specs.declared.id.SiteId.{SiteId}
use Rattle.rbd_commands.specs.declared.refusal.Refusal.{Refusal}
use Rattle.rbd_commands.specs.declared.refusal.Refusal.TheVariants as refusal
use Rattle.rbd_kinds.specs.declared.reply.Reply.{Reply}
use Rattle.rbd_kinds.specs.declared.reply.Reply.TheVariants as reply
use Rattle.rbd_kinds.specs.Header.{snap_named}
use Rattle.rbd_kinds.specs.Striping.{IsObjectCount}
use Rattle.rbd_layout.specs.Pieces.{pieces_of}
use Rattle.rbd_layout.specs.declared.types.Piece.{Piece}
use Rattle.rbd_header.specs.Header.{cut}
use Rattle.rbd_machine.specs.About.{look_up}
use Rattle.rbd_machine.specs.Path.{Answered, found, looked_at}
use Rattle.rbd_machine.specs.Refused.{by_fence, AreLooks, IsRefused}
use Rattle.rbd_machine.specs.Steps.{or_else, non_primary}
use Rattle.rbd_meaning.specs.Partly.{IsFrontOf}
use Rattle.rbd_meaning.specs.Reads.{IsShown}
use Rattle.rbd_pieces.specs.Full.{IsReplaced}
use Rattle.rbd_pieces.specs.Pieces.{ArePieces}
use Rattle.rbd_pieces.specs.Size.{IsResized}
use Rattle.rbd_pieces.specs.Zero.{head_of}

abbrev pub listing_refusal : Option SnapView → Option Refusal
listing_refusal None = Some refusal.NoSnap
listing_refusal (Some snap) = None

abbrev pub rollback_refuses : (snap : List ℕ) → HeaderView → Option Refusal
rollback_refuses snap h = or_else (non_primary h.role) (listing_refusal (snap_named h.snaps snap))

-- The head at another size, as its pieces see it.
abbrev pub at_size : (size : ℕ) → HeaderView → HeaderView
at_size size h = record h { size = size; parent = cut size h.parent }

-- A piece was read at a snapshot, and what it showed replaced the head's object.
pub record IsRestored (site : SiteId) (image : ℕ) (h : HeaderView) (snap : ℕ) (p : Piece)
    (steps : List Answered) : Type 0 where
  pub reading : List Answered
  pub read : IsShown site image (Some snap) p reading
  pub replacing : List Answered
  pub is_replaced : IsReplaced site image h p read.bytes replacing
  pub are : steps ≡ reading ++ replacing

-- the pieces were restored, one after another
abbrev pub AreRestored : SiteId → (image : ℕ) → HeaderView → (snap : ℕ) → List Piece → List Answered → Type 0
AreRestored site image h snap pieces steps = ArePieces (IsRestored site image h snap) pieces steps

-- The request found its image and looked at the header twice, and neither look refused it. Then, by
-- its look under the lock, it set the size to that of the snapshot which the header lists under the
-- name, and each object of the head became what it was at the snapshot.
pub record RollsBack (site : SiteId) (name snap : List ℕ) (steps : List Answered) : Type 0 where
  pub image : ℕ
  pub first : HeaderView
  pub own : HeaderView
  pub may_wait : rollback_refuses snap first ≡ None
  pub may : rollback_refuses snap own ≡ None
  pub listed : SnapView
  pub is_listed : snap_named own.snaps snap ≡ Some listed
  pub objects : ℕ
  pub counted : IsObjectCount own.layout listed.size objects
  pub resized : List Answered
  pub is_resized : IsResized site image own listed.size objects resized
  pub restored : List Answered
  pub are_restored : AreRestored site image (at_size listed.size own) listed.id
      (pieces_of own.layout (head_of (at_size listed.size own))) restored
  pub are : steps ≡ found site name image ∷ looked_at site image first ∷ looked_at site image own ∷
      (resized ++ restored)

-- The request was refused, and had only looked before, or done the first operations of a whole
-- rollback.
pub record RefusesRollback (site : SiteId) (name snap : List ℕ) (steps : List Answered) (x : Refusal) : Type 0 where
  pub refused : IsRefused site (look_up name) (rollback_refuses snap) by_fence steps x
  pub so_far : AreLooks refused.by.before ⊎ IsFrontOf (RollsBack site name snap) refused.by.before

abbrev pub RollbackMeans : SiteId → (image snap : List ℕ) → List Answered → Reply → Type 0
RollbackMeans site image snap steps reply.Done = RollsBack site image snap steps
RollbackMeans site image snap steps (reply.Refused x) = RefusesRollback site image snap steps x
RollbackMeans site image snap steps _ = ⊥
