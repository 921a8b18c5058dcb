-- Requests that are alone in their line, and take no turns: lemmas that the laws of an `impl` cite.
-- They define nothing.
use Rattle.std.proofs.Common.{◌≡◌, ℕ, ◌+◌, List, [], ◌∷◌, Bool, true, false, cond, Option, Some, None, refl, ap, sym, subst}
use Rattle.std.specs.Prelude.{◌&&◌}
use Rattle.rbd_kinds.specs.declared.sharing.Sharing.TheVariants as sharing
use Rattle.rbd_commands.specs.declared.command.Command.{Command}
use Rattle.rbd_commands.specs.declared.command.Command.TheVariants as command
use Rattle.rbd_commands.specs.declared.refusal.Refusal.TheVariants as refusal
use Rattle.rbd_kinds.specs.declared.answer.Answer.{Answer}
use Rattle.rbd_kinds.specs.declared.answer.Answer.TheVariants as answer
use Rattle.rbd_kinds.specs.declared.header.HeaderView.{HeaderView}
use Rattle.rbd_kinds.specs.declared.header.SnapView.{SnapView}
use Rattle.rbd_kinds.specs.declared.header_op.HeaderOp.TheVariants as header
use Rattle.rbd_kinds.specs.declared.id.SiteId.{SiteId}
use Rattle.rbd_kinds.specs.declared.operation.Op.{Op}
use Rattle.rbd_kinds.specs.declared.operation.Op.TheVariants as op
use Rattle.rbd_kinds.specs.declared.reply.Reply.TheVariants as reply
use Rattle.rbd_kinds.specs.Header.{snap_named}
use Rattle.rbd_kinds.proofs.Images.{at_itself}
use Rattle.rbd_layout.specs.Pieces.{pieces_of}
use Rattle.rbd_layout.specs.declared.types.Piece.{Piece}
use Rattle.rbd_machine.specs.Plan.{Plan, Return}
use Rattle.rbd_machine.specs.Steps.{applied, owned, refused}
use Rattle.rbd_machine.specs.Course.{Course, answered, beginning, course_past_look}
use Rattle.rbd_machine.specs.Orderly.{IsOrderly}
use Rattle.rbd_machine.specs.declared.stage.Stage.TheVariants as stage
use Rattle.rbd_machine.proofs.CourseSteps.{course_at, own_course, place_at, orderly_not_there, orderly_on_id, orderly_on_header, orderly_on_done, orderly_unless, orderly_change}
use Rattle.rbd_meaning.specs.Count.{object_count}
use Rattle.rbd_meaning.specs.Removals.{image_removal_refuses, may_be_gone, removal, watchers_refuse}
use Rattle.rbd_meaning.specs.Resizes.{resize_refuses}
use Rattle.rbd_meaning.specs.Rollbacks.{at_size, rollback_refuses}
use Rattle.rbd_meaning.specs.Snaps.{create_refuses, remove_refuses}
use Rattle.rbd_pieces.specs.Full.{full_piece}
use Rattle.rbd_pieces.specs.Zero.{head_of}
use Rattle.rbd_snap.specs.Snap.{on_snap, on_gone, taking_snap, putting, take, unmapping, remove_listed, remove_snap_plan, snap_plan}
use Rattle.rbd_image.specs.Resize.{resize_plan, set_size}
use Rattle.rbd_snap.specs.Rollback.{restore_all, restore_pieces, roll_back_listed, roll_back_to, rollback_plan}
use Rattle.rbd_image.specs.Remove as of_remove
use Rattle.rbd_image.specs.Remove.{holding_it, joining_its_line, looked_at_it, on_watchers, remove_each, remove_owned, remove_plan, unless_watched}
use Rattle.rbd_catalog.specs.NoLooks.{AreNoLooks, leaves_course, removal_has_none}
use Rattle.rbd_catalog.specs.OrderlyParts.{orderly_full, orderly_gather, orderly_on_bits, orderly_resize, begins_in_no_line}

-- its course behind its note
abbrev past_note : SiteId → (image : ℕ) → Course
past_note site image = record {
  place = Some (place_at sharing.Alone site image stage.Past);
  turn = None;
  due = [];
  objects = [];
}

-- ---- snap create, snap rm

module _ (site : SiteId) (snap : List ℕ) (image : ℕ) (h : HeaderView) where
  orderly_on_snap : (a : Answer) → IsOrderly None begins_in_no_line true (past_note site image)
      (on_snap (applied site image) a)
  orderly_on_snap (answer.Snap id) = (at_itself site image, tt)
  orderly_on_snap a = orderly_not_there None begins_in_no_line (past_note site image) a

  orderly_on_gone : (a : Answer) → IsOrderly None begins_in_no_line true (past_note site image)
      (on_gone (applied site image) a)
  orderly_on_gone answer.Done = (at_itself site image, tt)
  orderly_on_gone answer.Absent = (at_itself site image, tt)
  orderly_on_gone a = orderly_not_there None begins_in_no_line (past_note site image) a

  orderly_take : IsOrderly None begins_in_no_line true (own_course None sharing.Alone site image h)
      (take site snap image h)
  orderly_take = (
    at_itself site image,
    (
      refl,
      λ told can.
          orderly_on_bits None (past_note site image) refl
          (putting site snap image (h.snap_seq + 1) (applied site image)) (λ bits. (
            refl,
            λ put can. orderly_on_done None begins_in_no_line (past_note site image)
                (taking_snap site snap image (applied site image)) (refl, λ a can. orderly_on_snap a) put,
          )) told,
    ),
  )

  orderly_remove_listed : (listed : Option SnapView)
      → IsOrderly None begins_in_no_line true (own_course None sharing.Alone site image h)
      (remove_listed site snap image listed)
  orderly_remove_listed None = tt
  orderly_remove_listed (Some listed) = (
    at_itself site image,
    (
      refl,
      λ a can. orderly_on_done None begins_in_no_line (past_note site image)
          (unmapping site image listed.id (applied site image)) (refl, λ gone can. orderly_on_gone gone) a,
    ),
  )

pub orderly_snap : (site : SiteId) (c : Command) → IsOrderly None begins_in_no_line true beginning (snap_plan site c)
orderly_snap site (command.SnapCreate image snap) =
    orderly_change None begins_in_no_line site image sharing.Alone (create_refuses snap) (take site snap)
    (λ i h form may. orderly_take site snap i h)
orderly_snap site (command.SnapRemove image snap) =
    orderly_change None begins_in_no_line site image sharing.Alone (remove_refuses snap) (remove_snap_plan site snap)
    (λ i h form may. orderly_remove_listed site snap i h (snap_named h.snaps snap))
orderly_snap site _ = tt

-- ---- resize

orderly_set_size : (site : SiteId) (to image : ℕ) (h : HeaderView)
    → IsOrderly None begins_in_no_line true (own_course None sharing.Alone site image h) (set_size site to image h)
orderly_set_size site to image h = (
  at_itself site image,
  orderly_resize None (past_note site image) refl site image h to (applied site image) (at_itself site image, tt)
      (object_count h.layout to),
)

pub orderly_size : (site : SiteId) (c : Command) → IsOrderly None begins_in_no_line true beginning (resize_plan site c)
orderly_size site (command.Resize image size) =
    orderly_change None begins_in_no_line site image sharing.Alone (resize_refuses size) (set_size site size)
    (λ i h form may. orderly_set_size site size i h)
orderly_size site _ = tt

-- ---- snap rollback

module _ (site : SiteId) (image : ℕ) where
  orderly_pieces : (pieces : List Piece) (h : HeaderView) (snap : ℕ)
      → IsOrderly None begins_in_no_line true (past_note site image)
      (restore_pieces site image h snap pieces (applied site image))
  orderly_pieces [] h snap = (at_itself site image, tt)
  orderly_pieces (p ∷ pieces) h snap =
      let later = restore_pieces site image h snap pieces (applied site image) in
      orderly_gather None (past_note site image) refl (p ∷ []) site image (Some snap) []
      (λ bytes. full_piece site image h p bytes later)
      (λ bytes. orderly_full None (past_note site image) refl site image h p bytes later (orderly_pieces pieces h snap))

  orderly_listed : (snap : List ℕ) (h : HeaderView) (listed : Option SnapView)
      → IsOrderly None begins_in_no_line true (own_course None sharing.Alone site image h)
      (roll_back_listed site snap image h listed)
  orderly_listed snap h None = tt
  orderly_listed snap h (Some listed) =
      let head = at_size listed.size h in (
        at_itself site image,
        orderly_resize None (past_note site image) refl site image h listed.size
            (restore_all site image head listed.id (applied site image))
            (orderly_pieces (pieces_of h.layout (head_of head)) head listed.id) (object_count h.layout listed.size),
      )

pub orderly_rollback : (site : SiteId) (c : Command)
    → IsOrderly None begins_in_no_line true beginning (rollback_plan site c)
orderly_rollback site (command.SnapRollback image snap) =
    orderly_change None begins_in_no_line site image sharing.Alone (rollback_refuses snap) (roll_back_to site snap)
    (λ i h form may. orderly_listed site i snap h (snap_named h.snaps snap))
orderly_rollback site _ = tt

-- ---- rm

module _ (c : Course) (none : c.due ≡ []) (site : SiteId) where
  orderly_gone : (o : Op) (next : Plan) → IsOrderly None begins_in_no_line true c next → (a : Answer)
      → IsOrderly None begins_in_no_line true c (of_remove.on_gone o next a)
  orderly_gone o next orderly answer.Done = orderly
  orderly_gone o next orderly answer.Absent = go (may_be_gone o)
    where
      go : (b : Bool) → IsOrderly None begins_in_no_line true c (cond b next (refused refusal.NoImage))
      go true = orderly
      go false = tt
  orderly_gone o next orderly a = orderly_not_there None begins_in_no_line c a

  orderly_each : (ops : List Op) → AreNoLooks ops
      → IsOrderly None begins_in_no_line true c (remove_each site ops (Return reply.Done))
  orderly_each [] are = tt
  orderly_each (o ∷ ops) are = (
    none,
    λ a can.
        subst (λ d. IsOrderly None begins_in_no_line true d
        (of_remove.on_gone o (remove_each site ops (Return reply.Done)) a))
        (sym (leaves_course None c site o a are.0))
        (orderly_gone o (remove_each site ops (Return reply.Done)) (orderly_each ops are.1) a),
  )

  orderly_removal : (image : ℕ) (h : HeaderView)
      → IsOrderly None begins_in_no_line true c (of_remove.removal_plan site image h (Return reply.Done))
  orderly_removal image h = (
    none,
    λ a can. orderly_on_bits None c none (λ bits. remove_each site (removal image h bits) (Return reply.Done))
        (λ bits. orderly_each (removal image h bits) (removal_has_none image h bits)) a,
  )

  orderly_unwatched : (session image : ℕ) (next : Plan) → IsOrderly None begins_in_no_line true c next
      → IsOrderly None begins_in_no_line true c (unless_watched site session image next)
  orderly_unwatched session image next orderly = (none, λ a can. on a)
    where
      on : (a : Answer) → IsOrderly None begins_in_no_line true c (on_watchers session next a)
      on (answer.Instances watchers) = orderly_unless None begins_in_no_line c (watchers_refuse session watchers) next
          (λ unused. orderly)
      on a = orderly_not_there None begins_in_no_line c a

module _ (site : SiteId) (session image : ℕ) where
  -- a look before the lock is nobody's own
  first_told : (h : HeaderView) → answered None (course_at sharing.Alone site image stage.Joined) site
      (op.Header image header.Get) (answer.Header h) ≡ course_at sharing.Alone site image stage.Joined
  first_told h = ap (λ b. cond (b && false) (course_past_look None h (course_at sharing.Alone site image stage.Joined))
      (course_at sharing.Alone site image stage.Joined)) (at_itself site image)

  own_told : (h : HeaderView) → answered None (course_at sharing.Alone site image stage.Waiting) site
      (op.Header image header.Get) (answer.Header h) ≡ own_course None sharing.Alone site image h
  own_told h = ap (λ b. cond (b && true) (course_past_look None h (course_at sharing.Alone site image stage.Waiting))
      (course_at sharing.Alone site image stage.Waiting)) (at_itself site image)

  orderly_holding : IsOrderly None begins_in_no_line true (course_at sharing.Alone site image stage.Joined)
      (holding_it site session image)
  orderly_holding = (
    (at_itself site image, refl),
    (
      refl,
      orderly_on_header None begins_in_no_line image
          (answered None (course_at sharing.Alone site image stage.Waiting) site (op.Header image header.Get))
          (owned image_removal_refuses (remove_owned site session) image)
          (λ own form.
          subst (λ c. IsOrderly None begins_in_no_line true c
          (owned image_removal_refuses (remove_owned site session) image own)) (sym (own_told own))
          (orderly_unless None begins_in_no_line (own_course None sharing.Alone site image own)
          (image_removal_refuses own) (remove_owned site session image own) (λ may.
          orderly_unwatched (own_course None sharing.Alone site image own) refl site session image
          (of_remove.removal_plan site image own (Return reply.Done))
          (orderly_removal (own_course None sharing.Alone site image own) refl site image own)))),
    ),
  )

  orderly_joining : IsOrderly None begins_in_no_line true beginning (joining_its_line site session image)
  orderly_joining = (
    (refl, refl),
    (
      refl,
      orderly_on_header None begins_in_no_line image
          (answered None (course_at sharing.Alone site image stage.Joined) site (op.Header image header.Get))
          (looked_at_it site session image) (λ h form.
          subst (λ c. IsOrderly None begins_in_no_line true c (looked_at_it site session image h)) (sym (first_told h))
          (orderly_unless None begins_in_no_line (course_at sharing.Alone site image stage.Joined)
          (image_removal_refuses h) (unless_watched site session image (holding_it site session image)) (λ may_wait.
          orderly_unwatched (course_at sharing.Alone site image stage.Joined) refl site session image
          (holding_it site session image) orderly_holding))),
    ),
  )

pub orderly_remove : (site : SiteId) (session : ℕ) (c : Command)
    → IsOrderly None begins_in_no_line true beginning (remove_plan site session c)
orderly_remove site session (command.Remove image) = (
  refl,
  λ found can. orderly_on_id None begins_in_no_line beginning (joining_its_line site session)
      (λ i. orderly_joining site session i) found,
)
orderly_remove site session _ = tt
