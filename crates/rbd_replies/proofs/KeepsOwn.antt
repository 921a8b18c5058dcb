-- Once it owns its image a change keeps to it: it changes objects and maps, and sets the size, at
-- the image's site; and it leaves the image's line only at its end. So it knows the header that its
-- look under the lock told, with its own changes since.
use Rattle.std.proofs.Common.{◌≡◌, ℕ, Bool, true, false, List, [], ◌∷◌, Option, Some, None, refl}
use Rattle.std.specs.Prelude.{nat_le}
use Rattle.rbd_data.specs.Discard.{zero, zero_in_turns as discard_pieces}
use Rattle.rbd_header.specs.Header.{context_of}
use Rattle.rbd_kinds.specs.declared.answer.Answer.{Answer}
use Rattle.rbd_kinds.specs.declared.data_op.DataOp.TheVariants as object
use Rattle.rbd_kinds.specs.declared.header.HeaderView.{HeaderView}
use Rattle.rbd_kinds.specs.declared.header.SnapContext.{SnapContext}
use Rattle.rbd_kinds.specs.declared.header.SnapView.{SnapView}
use Rattle.rbd_kinds.specs.declared.header_op.HeaderOp.TheVariants as header
use Rattle.rbd_kinds.specs.declared.id.SiteId.{SiteId}
use Rattle.rbd_kinds.specs.declared.layout.Extent.{Extent}
use Rattle.rbd_kinds.specs.declared.operation.Op.{Op}
use Rattle.rbd_kinds.specs.declared.operation.Op.TheVariants as op
use Rattle.rbd_layout.specs.Pieces.{pieces_of}
use Rattle.rbd_layout.specs.declared.types.Piece.{Piece}
use Rattle.rbd_machine.specs.Plan.{Plan, Ask, Await, Note, Return, Goto}
use Rattle.rbd_machine.specs.Steps.{applied}
use Rattle.rbd_machine.specs.Wait.{Wait}
use Rattle.rbd_machine.specs.Wait as wait
use Rattle.rbd_meaning.specs.Count.{object_count}
use Rattle.rbd_meaning.specs.Rollbacks.{at_size}
use Rattle.rbd_image.specs.Resize.{set_size}
use Rattle.rbd_snap.specs.Rollback.{restore_pieces, roll_back_listed}
use Rattle.rbd_pieces.specs.Full.{cut_bytes, full_by, full_piece, writing_full}
use Rattle.rbd_pieces.specs.Shrink.{pieces_from}
use Rattle.rbd_pieces.specs.Size.{cutting, resize_by, sizing, zero_pieces}
use Rattle.rbd_pieces.specs.Zero.{emptying, head_of, is_inside, is_whole, removing, setting, zero_all, zero_by, zero_piece, zero_some, zeroing}
use Rattle.rbd_catalog.proofs.PlanSteps.{at_bits, at_bytes, at_done}

-- an operation on objects or maps, or one that sets the image's size
abbrev pub IsOnImage : (image : ℕ) → Op → Type 0
IsOnImage image (op.Data i number o) = Unit {0}
IsOnImage image (op.Map i o) = Unit {0}
IsOnImage image (op.Header i (header.SetSize to)) = i ≡ image
IsOnImage image o = ⊥

-- a wait that neither takes the lock anew nor leaves the line
abbrev pub StaysInLine : Wait → Type 0
StaysInLine (wait.Hold site image) = ⊥
StaysInLine (wait.Leave site image) = ⊥
StaysInLine w = Unit {0}

abbrev pub KeepsOwn : SiteId → (image : ℕ) → Plan → Type 0
KeepsOwn site image (Ask s why o next) = ((s ≡ site) × IsOnImage image o) × ((a : Answer) → KeepsOwn site image (next a))
KeepsOwn site image (Await w next) = StaysInLine w × KeepsOwn site image next
KeepsOwn site image (Note s i event next) = KeepsOwn site image next
KeepsOwn site image (Return r) = Unit {0}
KeepsOwn site image (Goto label) = ⊥

-- ---- a piece becomes zeros

module _ (site : SiteId) (image : ℕ) (context : SnapContext) (piece : Piece) where
  keeps_zero_some : (inside : Bool) (next : Plan) → KeepsOwn site image next → KeepsOwn site image (zero_some site image context piece inside next)
  keeps_zero_some false next none = ((refl, tt), at_done (KeepsOwn site image) (λ r. tt) next none)
  keeps_zero_some true next none = ((refl, tt), at_done (KeepsOwn site image) (λ r. tt) (zeroing site image context piece true next) ((refl, tt), at_done (KeepsOwn site image) (λ r. tt) next none))

  pub keeps_zero_all : (inside : Bool) (next : Plan) → KeepsOwn site image next → KeepsOwn site image (zero_all site image context piece inside next)
  keeps_zero_all false next none =
      let lowering : Plan = setting site image context piece 0 next in (
        (refl, tt),
        at_done (KeepsOwn site image) (λ r. tt) (removing site image context piece lowering)
            ((refl, tt), at_done (KeepsOwn site image) (λ r. tt) lowering ((refl, tt), at_done (KeepsOwn site image) (λ r. tt) next none)),
      )
  keeps_zero_all true next none = ((refl, tt), at_done (KeepsOwn site image) (λ r. tt) (emptying site image context piece next) ((refl, tt), at_done (KeepsOwn site image) (λ r. tt) next none))

  keeps_zero_by : (whole inside : Bool) (next : Plan) → KeepsOwn site image next → KeepsOwn site image (zero_by site image context piece whole inside next)
  keeps_zero_by false inside next none = keeps_zero_some inside next none
  keeps_zero_by true inside next none = keeps_zero_all inside next none

keeps_zero : (site : SiteId) (image : ℕ) (h : HeaderView) (piece : Piece) (next : Plan) → KeepsOwn site image next → KeepsOwn site image (zero_piece site image h piece next)
keeps_zero site image h piece next none = keeps_zero_by site image (context_of h) piece (is_whole h piece) (is_inside h piece.object) next none

-- ---- discard

keeps_discard : (pieces : List Piece) (site : SiteId) (image : ℕ) (h : HeaderView) (next : Plan) → KeepsOwn site image next → KeepsOwn site image (discard_pieces site image h pieces next)
keeps_discard [] site image h next none = none
keeps_discard (p ∷ pieces) site image h next none =
    (tt, keeps_zero site image h p (discard_pieces site image h pieces next) (keeps_discard pieces site image h next none))

pub keeps_zeroing : (site : SiteId) (e : Extent) (image : ℕ) (h : HeaderView) → KeepsOwn site image (zero site e image h)
keeps_zeroing site e image h = keeps_discard (pieces_of h.layout e) site image h (applied site image) (tt, tt)

-- ---- resize

keeps_zeros : (pieces : List Piece) (site : SiteId) (image : ℕ) (h : HeaderView) (next : Plan) → KeepsOwn site image next → KeepsOwn site image (zero_pieces site image h pieces next)
keeps_zeros [] site image h next none = none
keeps_zeros (p ∷ pieces) site image h next none = keeps_zero site image h p (zero_pieces site image h pieces next) (keeps_zeros pieces site image h next none)

keeps_sizing : (site : SiteId) (image to : ℕ) (next : Plan) → KeepsOwn site image next → KeepsOwn site image (sizing site image to next)
keeps_sizing site image to next none = ((refl, refl), at_done (KeepsOwn site image) (λ r. tt) next none)

keeps_resize : (grows : Bool) (site : SiteId) (image : ℕ) (h : HeaderView) (to objects : ℕ) (next : Plan) → KeepsOwn site image next → KeepsOwn site image (resize_by grows site image h to objects next)
keeps_resize true site image h to objects next none = ((refl, tt), at_done (KeepsOwn site image) (λ r. tt) (sizing site image to next) (keeps_sizing site image to next none))
keeps_resize false site image h to objects next none = (
  (refl, tt),
  at_bits (KeepsOwn site image) (λ r. tt) (cutting site image h to next)
      (λ bits. keeps_zeros (pieces_from h to bits) site image h (sizing site image to next) (keeps_sizing site image to next none)),
)

pub keeps_set_size : (site : SiteId) (to image : ℕ) (h : HeaderView) → KeepsOwn site image (set_size site to image h)
keeps_set_size site to image h = keeps_resize (nat_le h.size to) site image h to (object_count h.layout to) (applied site image) (tt, tt)

-- ---- snap rollback

keeps_full : (left : List ℕ) (site : SiteId) (image : ℕ) (h : HeaderView) (p : Piece) (next : Plan) → KeepsOwn site image next → KeepsOwn site image (full_by site image h p left next)
keeps_full [] site image h p next none = keeps_zero_all site image (context_of h) p (is_inside h p.object) next none
keeps_full (byte ∷ left) site image h p next none = (
  (refl, tt),
  at_done (KeepsOwn site image) (λ r. tt) (writing_full site image (context_of h) p.object (byte ∷ left) next) ((refl, tt), at_done (KeepsOwn site image) (λ r. tt) next none),
)

keeps_restore : (pieces : List Piece) (site : SiteId) (image : ℕ) (h : HeaderView) (snap : ℕ) (next : Plan) → KeepsOwn site image next → KeepsOwn site image (restore_pieces site image h snap pieces next)
keeps_restore [] site image h snap next none = none
keeps_restore (p ∷ pieces) site image h snap next none =
    let rest : Plan = restore_pieces site image h snap pieces next in (
      (refl, tt),
      at_bytes (KeepsOwn site image) (λ r. tt) p.parts (λ bytes. full_piece site image h p bytes rest)
          (λ bytes. keeps_full (cut_bytes bytes) site image h p rest (keeps_restore pieces site image h snap next none)),
    )

pub keeps_rollback : (site : SiteId) (snap : List ℕ) (image : ℕ) (h : HeaderView) (listed : Option SnapView) → KeepsOwn site image (roll_back_listed site snap image h listed)
keeps_rollback site snap image h None = tt
keeps_rollback site snap image h (Some listed) =
    let sized : HeaderView = at_size listed.size h in
    keeps_resize (nat_le h.size listed.size) site image h listed.size (object_count h.layout listed.size) _
    (keeps_restore (pieces_of sized.layout (head_of sized)) site image sized listed.id (applied site image) (tt, tt))
