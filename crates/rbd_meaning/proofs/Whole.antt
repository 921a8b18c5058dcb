-- No answer of a whole change refuses it.
use Rattle.std.proofs.Common.{◌≡◌, ℕ, List, [], ◌∷◌, ◌++◌, Bool, true, false, cond, Option, Some, None, refl, sym, ap, subst}
use Rattle.std.specs.Prelude.{nat_le}
use Rattle.rbd_kinds.specs.declared.answer.Answer.{Answer}
use Rattle.rbd_kinds.specs.declared.answer.Answer.TheVariants as answer
use Rattle.rbd_kinds.specs.declared.directory_op.DirectoryOp.{DirectoryOp}
use Rattle.rbd_kinds.specs.declared.directory_op.DirectoryOp.TheVariants as directory
use Rattle.rbd_kinds.specs.declared.header.HeaderView.{HeaderView}
use Rattle.rbd_kinds.specs.declared.header.SnapContext.{SnapContext}
use Rattle.rbd_kinds.specs.declared.header_op.HeaderOp.{HeaderOp}
use Rattle.rbd_kinds.specs.declared.header_op.HeaderOp.TheVariants as header
use Rattle.rbd_kinds.specs.declared.id.Instance.{Instance}
use Rattle.rbd_kinds.specs.declared.id.SiteId.{SiteId}
use Rattle.rbd_kinds.specs.declared.layout.Extent.{Extent}
use Rattle.rbd_kinds.specs.declared.map_op.MapOp.{MapOp}
use Rattle.rbd_kinds.specs.declared.map_op.MapOp.TheVariants as states
use Rattle.rbd_kinds.specs.declared.operation.Op.{Op}
use Rattle.rbd_kinds.specs.declared.operation.Op.TheVariants as op
use Rattle.rbd_commands.specs.declared.refusal.Refusal.{Refusal}
use Rattle.rbd_commands.specs.declared.refusal.Refusal.TheVariants as refusal
use Rattle.rbd_layout.specs.declared.types.Piece.{Piece}
use Rattle.rbd_header.specs.Header.{context_of}
use Rattle.rbd_machine.specs.Objects.{data_read}
use Rattle.rbd_machine.specs.About.{owned_after, owned_behind}
use Rattle.rbd_machine.specs.Knowledge.{ImagePlace}
use Rattle.rbd_machine.specs.Path.{Answered}
use Rattle.rbd_machine.specs.Refused.{refusal_by, AreAllowed, IsRefusedBy, MayRefuse}
use Rattle.rbd_pieces.specs.Full.{cut_bytes, replaced_by}
use Rattle.rbd_pieces.specs.Pieces.{ArePieces}
use Rattle.rbd_pieces.specs.Shrink.{pieces_from}
use Rattle.rbd_pieces.specs.Size.{AreZeroed, IsResizedBy}
use Rattle.rbd_pieces.specs.Zero.{IsZeroed, all_zeroed, is_inside, is_whole, some_zeroed, zeroed_by}
use Rattle.rbd_pieces.proofs.Pieces.{of_each_piece}
use Rattle.rbd_meaning.specs.Discards.{DiscardsWhole}
use Rattle.rbd_meaning.specs.Range.{extent_at}
use Rattle.rbd_meaning.specs.Reads.{IsShown, bytes_shown}
use Rattle.rbd_meaning.specs.Removals.{is_watched_beside, removal, removal_refusal_by, watchers_refuse, AllowRemoval, AreRemovals, IsRemovedBy, RefusesRemovalOf, RemovesImage}
use Rattle.rbd_meaning.specs.Resizes.{ResizesWhole, resize_refuses}
use Rattle.rbd_meaning.specs.Rollbacks.{AreRestored, IsRestored, RollsBack, rollback_refuses}
use Rattle.rbd_meaning.specs.Writes.{AreWritten, IsWritten, WritesWhole, write_refuses}

-- no answer refuses, whatever images are its own before
abbrev AreFree : (HeaderView → Option Refusal) → List Answered → Type 0
AreFree refuses steps = (images : List ImagePlace) → AreAllowed refuses images steps

module _ (refuses : HeaderView → Option Refusal) where
  last_allowed : (images : List ImagePlace) (before : List Answered) (last : Answered) → AreAllowed refuses images (before ++ last ∷ []) → MayRefuse (owned_behind images before) last
      → refusal_by refuses last.op last.answer ≡ None
  last_allowed images [] last allowed own = allowed.0 own
  last_allowed images (s ∷ before) last allowed own = last_allowed (owned_after images s.site s.op s.answer) before last allowed.1 own

  -- what was refused has an answer that refuses
  pub allowed_ends : (late : Refusal → Type 0) (steps : List Answered) (x : Refusal) → AreAllowed refuses [] steps → IsRefusedBy refuses late steps x → ⊥
  allowed_ends late steps x allowed by =
      let none = last_allowed [] by.before by.last (subst (AreAllowed refuses []) by.are allowed) by.own in
      let some = by.refused in
      cc

  both_allowed : (one two : List Answered) → AreFree refuses one → AreFree refuses two → AreFree refuses (one ++ two)
  both_allowed one two first second images = go images one (first images)
    where
      go : (images : List ImagePlace) (one : List Answered) → AreAllowed refuses images one → AreAllowed refuses images (one ++ two)
      go images [] allowed = second images
      go images (s ∷ one) allowed = (allowed.0, go (owned_after images s.site s.op s.answer) one allowed.1)

  -- piece by piece
  each_allowed : {P : Type 0} → (IsPiece : P → List Answered → Type 0) → ((p : P) (steps : List Answered) → IsPiece p steps → AreFree refuses steps)
      → (pieces : List P) (steps : List Answered) → ArePieces IsPiece pieces steps → AreFree refuses steps
  each_allowed IsPiece each pieces steps are = of_each_piece (AreFree refuses) (λ images. tt) both_allowed IsPiece each pieces steps are

  -- ---- parts of changes

  some_allowed : (site : SiteId) (image : ℕ) (context : SnapContext) (p : Piece) (inside : Bool) → AreFree refuses (some_zeroed site image context p inside)
  some_allowed site image context p false images = (λ own. refl, tt)
  some_allowed site image context p true images = (λ own. refl, (λ own. refl, tt))

  all_allowed : (site : SiteId) (image : ℕ) (context : SnapContext) (p : Piece) (inside : Bool) → AreFree refuses (all_zeroed site image context p inside)
  all_allowed site image context p false images = (λ own. refl, (λ own. refl, (λ own. refl, tt)))
  all_allowed site image context p true images = (λ own. refl, (λ own. refl, tt))

  zeroed_allowed : (site : SiteId) (image : ℕ) (context : SnapContext) (p : Piece) (whole inside : Bool) → AreFree refuses (zeroed_by site image context p whole inside)
  zeroed_allowed site image context p false inside = some_allowed site image context p inside
  zeroed_allowed site image context p true inside = all_allowed site image context p inside

  pieces_allowed : (site : SiteId) (image : ℕ) (h : HeaderView) (pieces : List Piece) (steps : List Answered) → AreZeroed site image h pieces steps → AreFree refuses steps
  pieces_allowed site image h pieces steps are =
      each_allowed (IsZeroed site image h) (λ p steps is. subst (AreFree refuses) (sym is) (zeroed_allowed site image (context_of h) p (is_whole h p) (is_inside h p.object))) pieces steps are

  resized_allowed : (site : SiteId) (image : ℕ) (h : HeaderView) (to objects : ℕ) (grows : Bool) (steps : List Answered) → IsResizedBy grows site image h to objects steps → AreFree refuses steps
  resized_allowed site image h to objects true steps are = subst (AreFree refuses) (sym are) (λ images. (λ own. refl, (λ own. refl, tt)))
  resized_allowed site image h to objects false steps shrunk =
      subst (AreFree refuses) (sym shrunk.are)
      (λ images. (λ own. refl, both_allowed shrunk.zeroed _ (pieces_allowed site image h (pieces_from h to shrunk.bits) shrunk.zeroed shrunk.are_zeroed) (λ images. (λ own. refl, tt)) images))

  replaced_allowed : (site : SiteId) (image : ℕ) (h : HeaderView) (p : Piece) (left : List ℕ) → AreFree refuses (replaced_by site image h p left)
  replaced_allowed site image h p [] images = all_allowed site image (context_of h) p (is_inside h p.object) images
  replaced_allowed site image h p (byte ∷ left) images = (λ own. refl, (λ own. refl, tt))

  read_allowed : (image : ℕ) (snap : Option ℕ) (p : Piece) (a : Answer) (bytes : List ℕ) → bytes_shown p.parts a ≡ Some bytes → refusal_by refuses (data_read image snap p) a ≡ None
  read_allowed image snap p (answer.Bytes shown) bytes is = refl
  read_allowed image snap p answer.Absent bytes is = refl
  read_allowed image snap p _ bytes is = cc

  shown_allowed : (site : SiteId) (image : ℕ) (snap : Option ℕ) (p : Piece) (steps : List Answered) → IsShown site image snap p steps → AreFree refuses steps
  shown_allowed site image snap p steps is = subst (AreFree refuses) (sym is.are) (λ images. (λ own. read_allowed image snap p is.answer is.bytes is.shown, tt))

  written_allowed : (site : SiteId) (image : ℕ) (h : HeaderView) (at : ℕ) (bytes : List ℕ) (pieces : List Piece) (steps : List Answered)
      → AreWritten site image h at bytes pieces steps → AreFree refuses steps
  written_allowed site image h at bytes pieces steps are =
      each_allowed (IsWritten site image h at bytes) (λ p steps is. subst (AreFree refuses) (sym is) (λ images. (λ own. refl, (λ own. refl, tt)))) pieces steps are

  one_restored_allowed : (site : SiteId) (image : ℕ) (h : HeaderView) (snap : ℕ) (p : Piece) (steps : List Answered) → IsRestored site image h snap p steps → AreFree refuses steps
  one_restored_allowed site image h snap p steps is =
      let read = is.read in
      subst (AreFree refuses) (sym is.are)
      (both_allowed is.reading is.replacing (shown_allowed site image (Some snap) p is.reading read)
      (subst (AreFree refuses) (sym is.is_replaced) (replaced_allowed site image h p (cut_bytes read.bytes))))

  restored_allowed : (site : SiteId) (image : ℕ) (h : HeaderView) (snap : ℕ) (pieces : List Piece) (steps : List Answered) → AreRestored site image h snap pieces steps → AreFree refuses steps
  restored_allowed site image h snap pieces steps are = each_allowed (IsRestored site image h snap) (one_restored_allowed site image h snap) pieces steps are

-- ---- whole ones

pub write_allowed : (site : SiteId) (name : List ℕ) (at : ℕ) (bytes : List ℕ) (steps : List Answered) → WritesWhole site name at bytes steps → AreAllowed (write_refuses (extent_at at bytes)) [] steps
write_allowed site name at bytes steps whole =
    subst (AreAllowed (write_refuses (extent_at at bytes)) []) (sym whole.are)
    (λ own. refl, (λ own. whole.may_wait, (λ own. whole.may, written_allowed (write_refuses (extent_at at bytes)) site whole.image whole.own at bytes _ whole.written whole.are_written _)))

pub discard_allowed : (site : SiteId) (name : List ℕ) (e : Extent) (steps : List Answered) → DiscardsWhole site name e steps → AreAllowed (write_refuses e) [] steps
discard_allowed site name e steps whole =
    subst (AreAllowed (write_refuses e) []) (sym whole.are)
    (λ own. refl, (λ own. whole.may_wait, (λ own. whole.may, pieces_allowed (write_refuses e) site whole.image whole.own _ whole.zeroed whole.are_zeroed _)))

pub resize_allowed : (site : SiteId) (name : List ℕ) (to : ℕ) (steps : List Answered) → ResizesWhole site name to steps → AreAllowed (resize_refuses to) [] steps
resize_allowed site name to steps whole =
    subst (AreAllowed (resize_refuses to) []) (sym whole.are)
    (λ own. refl, (λ own. whole.may_wait, (λ own. whole.may, resized_allowed (resize_refuses to) site whole.image whole.own to whole.objects (nat_le whole.own.size to) whole.resized whole.is_resized _)))

pub rollback_allowed : (site : SiteId) (name snap : List ℕ) (steps : List Answered) → RollsBack site name snap steps → AreAllowed (rollback_refuses snap) [] steps
rollback_allowed site name snap steps whole =
    subst (AreAllowed (rollback_refuses snap) []) (sym whole.are) (
      λ own. refl,
      (
        λ own. whole.may_wait,
        (
          λ own. whole.may,
          both_allowed (rollback_refuses snap) whole.resized whole.restored
              (resized_allowed (rollback_refuses snap) site whole.image whole.own whole.listed.size whole.objects (nat_le whole.own.size whole.listed.size) whole.resized whole.is_resized)
              (restored_allowed (rollback_refuses snap) site whole.image _ whole.listed.id _ whole.restored whole.are_restored)
              _,
        ),
      ),
    )

-- ---- the removal of an image

last_removal_allowed : (session : ℕ) (before : List Answered) (last : Answered) → AllowRemoval session (before ++ last ∷ []) → removal_refusal_by session last.op last.answer ≡ None
last_removal_allowed session [] last allowed = allowed.0
last_removal_allowed session (s ∷ before) last allowed = last_removal_allowed session before last allowed.1

unwatched : (session : ℕ) (watchers : List Instance) → is_watched_beside session watchers ≡ false → watchers_refuse session watchers ≡ None
unwatched session watchers none = ap (λ b. cond b (Some refusal.InUse) None) none

header_gone : (session image : ℕ) (o : HeaderOp) (a : Answer) → IsRemovedBy (op.Header image o) a → removal_refusal_by session (op.Header image o) a ≡ None
header_gone session image header.WatchersGet answer.Done gone = refl
header_gone session image o answer.Done gone = refl
header_gone session image o answer.Absent gone = cc
header_gone session image o _ gone = absurd gone

directory_gone : (session : ℕ) (o : DirectoryOp) (a : Answer) → IsRemovedBy (op.Directory o) a → removal_refusal_by session (op.Directory o) a ≡ None
directory_gone session o answer.Done gone = refl
directory_gone session (directory.Remove image) answer.Absent gone = refl
directory_gone session o answer.Absent gone = cc
directory_gone session o _ gone = absurd gone

map_gone : (session image : ℕ) (o : MapOp) (a : Answer) → IsRemovedBy (op.Map image o) a → removal_refusal_by session (op.Map image o) a ≡ None
map_gone session image o answer.Done gone = refl
map_gone session image (states.Remove (Some snap)) answer.Absent gone = refl
map_gone session image o answer.Absent gone = cc
map_gone session image o _ gone = absurd gone

gone_allowed : (session : ℕ) (o : Op) (a : Answer) → IsRemovedBy o a → removal_refusal_by session o a ≡ None
gone_allowed session (op.Header image o) a gone = header_gone session image o a gone
gone_allowed session (op.Directory o) a gone = directory_gone session o a gone
gone_allowed session (op.Map image o) a gone = map_gone session image o a gone
gone_allowed session o answer.Done gone = refl
gone_allowed session o answer.Absent gone = refl
gone_allowed session o _ gone = absurd gone

removals_allowed : (session : ℕ) (site : SiteId) (ops : List Op) (steps : List Answered) → AreRemovals site ops steps → AllowRemoval session steps
removals_allowed session site [] [] are = tt
removals_allowed session site [] (s ∷ steps) are = absurd are
removals_allowed session site (o ∷ ops) [] are = absurd are
removals_allowed session site (o ∷ ops) (s ∷ steps) (at, is, gone, are) =
    (subst (λ p. removal_refusal_by session p s.answer ≡ None) (sym is) (gone_allowed session o s.answer gone), removals_allowed session site ops steps are)

removal_allowed : (site : SiteId) (session : ℕ) (name : List ℕ) (steps : List Answered) → RemovesImage site session name steps → AllowRemoval session steps
removal_allowed site session name steps whole =
    subst (AllowRemoval session) (sym whole.are)
    (refl, (whole.may_wait, (unwatched session whole.watchers whole.unused, (whole.may, (unwatched session whole.others whole.unused_still, (refl, removals_allowed session site (removal whole.image whole.own whole.bits) whole.removed whole.are_removed))))))

-- a removal that was refused isn't a whole one
pub removal_ends : (site : SiteId) (session : ℕ) (name : List ℕ) (steps : List Answered) (x : Refusal) → RemovesImage site session name steps → RefusesRemovalOf site session name steps x → ⊥
removal_ends site session name steps x whole refused =
    let none = last_removal_allowed session refused.before refused.last (subst (AllowRemoval session) refused.are (removal_allowed site session name steps whole)) in
    let some = refused.refused in
    cc
