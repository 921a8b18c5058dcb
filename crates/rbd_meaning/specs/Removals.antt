-- `rm`: what refuses one, what has been removed when it is done, and what its replies mean.
use Rattle.std.specs.Prelude.{◌≡◌, ◌⊎◌, ℕ, ◌*◌, ◌==◌, not, Bool, true, false, List, [], ◌∷◌, ◌++◌, length, map, filter, if◌then◌else◌, Option, Some, None}
use Rattle.std.specs.List.{range_with_len}
use Rattle.rbd_kinds.specs.declared.answer.Answer.{Answer}
use Rattle.rbd_kinds.specs.declared.answer.Answer.TheVariants as answer
use Rattle.rbd_kinds.specs.declared.children_op.ChildrenOp.TheVariants as child
use Rattle.rbd_kinds.specs.declared.data_op.DataOp.TheVariants as object
use Rattle.rbd_kinds.specs.declared.directory_op.DirectoryOp.TheVariants as directory
use Rattle.rbd_kinds.specs.declared.header.HeaderView.{HeaderView}
use Rattle.rbd_kinds.specs.declared.header.ParentLink.{ParentLink}
use Rattle.rbd_kinds.specs.declared.header.SnapContext.{SnapContext}
use Rattle.rbd_kinds.specs.declared.header.SnapView.{SnapView}
use Rattle.rbd_kinds.specs.declared.header_op.HeaderOp.TheVariants as header
use Rattle.rbd_kinds.specs.declared.id.Instance.{Instance}
use Rattle.rbd_kinds.specs.declared.id.SiteId.{SiteId}
use Rattle.rbd_kinds.specs.declared.journal_op.JournalOp.TheVariants as journal
use Rattle.rbd_kinds.specs.declared.map_op.MapOp.TheVariants as states
use Rattle.rbd_kinds.specs.declared.operation.Op.{Op}
use Rattle.rbd_kinds.specs.declared.operation.Op.TheVariants as op
use Rattle.rbd_commands.specs.declared.refusal.Refusal.{Refusal}
use Rattle.rbd_commands.specs.declared.refusal.Refusal.TheVariants as refusal
use Rattle.rbd_kinds.specs.declared.reply.Reply.{Reply}
use Rattle.rbd_kinds.specs.declared.reply.Reply.TheVariants as reply
use Rattle.rbd_kinds.specs.States.{state_at}
use Rattle.rbd_machine.specs.About.{look_up, owned_behind, AreOwn}
use Rattle.rbd_machine.specs.Path.{Answered, found, looked_at}
use Rattle.rbd_machine.specs.Refused.{by_fence, refusal_by, AreLooks, MayRefuse}
use Rattle.rbd_machine.specs.Steps.{or_else, non_primary}
use Rattle.rbd_meaning.specs.Partly.{IsFrontOf}
use Rattle.rbd_meaning.specs.Snaps.{map_told}

-- ---- refusals

-- some snapshot is listed
abbrev pub snaps_refuse : List SnapView → Option Refusal
snaps_refuse [] = None
snaps_refuse (snap ∷ snaps) = Some refusal.HasSnaps

abbrev pub image_removal_refuses : HeaderView → Option Refusal
image_removal_refuses h = or_else (non_primary h.role) (snaps_refuse h.snaps)

-- an instance of another session watches
abbrev pub is_watched_beside : (session : ℕ) → (watchers : List Instance) → Bool
is_watched_beside session [] = false
is_watched_beside session (i ∷ watchers) = if i.session == session then is_watched_beside session watchers else true

abbrev pub watchers_refuse : (session : ℕ) → (watchers : List Instance) → Option Refusal
watchers_refuse session watchers = if is_watched_beside session watchers then Some refusal.InUse else None

-- what an answer to an operation refuses a removal of a session
abbrev pub removal_refusal_by : (session : ℕ) → Op → Answer → Option Refusal
removal_refusal_by session (op.Header image header.WatchersGet) (answer.Instances watchers) =
    watchers_refuse session watchers
removal_refusal_by session o a = refusal_by image_removal_refuses o a

-- no answer refuses the removal, which looks at no other image than its own
abbrev pub AllowRemoval : (session : ℕ) → List Answered → Type 0
AllowRemoval session [] = Unit {0}
AllowRemoval session (step ∷ steps) = (removal_refusal_by session step.op step.answer ≡ None)
    × AllowRemoval session steps

-- ---- what goes

-- the first of two links that is there
abbrev pub first_link : Option ParentLink → Option ParentLink → Option ParentLink
first_link None other = other
first_link (Some link) other = Some link

-- the first parent that a snapshot has
abbrev pub parent_in : List SnapView → Option ParentLink
parent_in [] = None
parent_in (s ∷ snaps) = first_link s.parent (parent_in snaps)

-- the parent of the head, or of a snapshot where the head has none
abbrev pub link_of : HeaderView → Option ParentLink
link_of h = first_link h.parent (parent_in h.snaps)

-- the image goes from the list of its parent's clones
abbrev pub unlinking : (image : ℕ) → Option ParentLink → List Op
unlinking image None = []
unlinking image (Some link) = op.Children (child.Remove link.image link.snap image) ∷ []

-- the objects that bits of a map give a state other than 0, ascending
abbrev pub used_objects : (bits : List ℕ) → List ℕ
used_objects bits = filter (λ object. not (state_at bits object == 0)) (range_with_len 0 (4 * length bits))

-- nothing is kept for a snapshot
abbrev pub no_snapshots : SnapContext
no_snapshots = record { seq = 0; snaps = [] }

abbrev pub removing_object : (image object : ℕ) → Op
removing_object image number = op.Data image number (object.Remove no_snapshots)

abbrev pub removing_map_of : (image : ℕ) → SnapView → Op
removing_map_of image s = op.Map image (states.Remove (Some s.id))

abbrev pub removing_journal : (image : ℕ) → Bool → List Op
removing_journal image false = []
removing_journal image true = op.Journal image journal.Remove ∷ []

-- All that an image is, by its header and the states of its head's map: its name first and then the
-- header, so that nobody finds it any more, the link to its parent, its objects, its maps, and its
-- journal.
abbrev pub removal : (image : ℕ) → HeaderView → (bits : List ℕ) → List Op
removal image h bits =
    op.Directory (directory.Remove image) ∷ op.Header image header.Remove
    ∷ (unlinking image (link_of h) ++ (map (removing_object image) (used_objects bits)
    ++ (op.Map image (states.Remove None) ∷ (map (removing_map_of image) h.snaps ++ removing_journal image h.journal))))

-- what needn't be there any more: the name, the link, and the map of a snapshot
abbrev pub may_be_gone : Op → Bool
may_be_gone (op.Directory (directory.Remove image)) = true
may_be_gone (op.Children (child.Remove parent snap image)) = true
may_be_gone (op.Map image (states.Remove (Some snap))) = true
may_be_gone _ = false

-- what was to go went, or was gone
abbrev pub IsRemovedBy : Op → Answer → Type 0
IsRemovedBy o answer.Done = Unit {0}
IsRemovedBy o answer.Absent = may_be_gone o ≡ true
IsRemovedBy o _ = ⊥

-- the operations were done, one after another, and by each something went or was gone
abbrev pub AreRemovals : SiteId → List Op → List Answered → Type 0
AreRemovals site [] [] = Unit {0}
AreRemovals site (o ∷ ops) (step ∷ steps) = (step.site ≡ site) × (step.op ≡ o) × IsRemovedBy o step.answer
    × AreRemovals site ops steps
AreRemovals site _ _ = ⊥

-- ---- what was done

-- the watchers of an image were told
abbrev pub watchers_told : SiteId → (image : ℕ) → List Instance → Answered
watchers_told site image watchers =
    record { site = site; op = op.Header image header.WatchersGet; answer = answer.Instances watchers }

-- The request found its image, and looked at the header and at the watchers, twice; no look refused
-- it. Then all went that the image was, by the header of its look under the lock and by the states
-- of the head's map.
pub record RemovesImage (site : SiteId) (session : ℕ) (name : List ℕ) (steps : List Answered) : Type 0 where
  pub image : ℕ
  pub first : HeaderView
  pub watchers : List Instance
  pub own : HeaderView
  pub others : List Instance
  pub may_wait : image_removal_refuses first ≡ None
  pub unused : is_watched_beside session watchers ≡ false
  pub may : image_removal_refuses own ≡ None
  pub unused_still : is_watched_beside session others ≡ false
  pub bits : List ℕ
  pub removed : List Answered
  pub are_removed : AreRemovals site (removal image own bits) removed
  pub are : steps ≡ found site name image ∷ looked_at site image first ∷ watchers_told site image watchers
      ∷ looked_at site image own ∷ watchers_told site image others ∷ map_told site image bits ∷ removed

-- The answer to the last operation refused the request, which but for the fence was of an own image
-- or of none, and no answer before did. Unless that was the fence, the request had only looked; with
-- the fence it may have done the first operations of a whole removal.
pub record RefusesRemovalOf (site : SiteId) (session : ℕ) (name : List ℕ) (steps : List Answered)
    (x : Refusal) : Type 0 where
  pub own : AreOwn site (look_up name) steps
  pub before : List Answered
  pub last : Answered
  pub are : steps ≡ before ++ last ∷ []
  pub by_own : MayRefuse (owned_behind [] before) last
  pub refused : removal_refusal_by session last.op last.answer ≡ Some x
  pub allowed : AllowRemoval session before
  pub unchanged : (by_fence x → ⊥) → AreLooks before
  pub so_far : AreLooks before ⊎ IsFrontOf (RemovesImage site session name) before

abbrev pub RemoveMeans : SiteId → (session : ℕ) → (image : List ℕ) → List Answered → Reply → Type 0
RemoveMeans site session image steps reply.Done = RemovesImage site session image steps
RemoveMeans site session image steps (reply.Refused x) = RefusesRemovalOf site session image steps x
RemoveMeans site session image steps _ = ⊥
