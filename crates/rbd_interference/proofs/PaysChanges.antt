-- Discards, resizes and rollbacks pay the states that they set: each object is changed directly
-- behind its state, and one that goes has its state set to 0 then.
use Rattle.std.proofs.Common.{◌≡◌, ℕ, nat_le, List, [], ◌∷◌, Bool, true, false, Option, Some, None, refl, sym, ap, subst}
use Rattle.rbd_kinds.specs.declared.sharing.Sharing.TheVariants as sharing
use Rattle.rbd_kinds.specs.declared.answer.Answer.{Answer}
use Rattle.rbd_kinds.specs.declared.answer.Answer.TheVariants as answer
use Rattle.rbd_kinds.specs.declared.data_op.DataOp.TheVariants as object
use Rattle.rbd_kinds.specs.declared.header.HeaderView.{HeaderView}
use Rattle.rbd_kinds.specs.declared.header.SnapContext.{SnapContext}
use Rattle.rbd_kinds.specs.declared.header.SnapView.{SnapView}
use Rattle.rbd_kinds.specs.declared.id.SiteId.{SiteId}
use Rattle.rbd_kinds.specs.declared.layout.Extent.{Extent}
use Rattle.rbd_kinds.specs.Header.{snap_named}
use Rattle.rbd_kinds.specs.Striping.{byte_at}
use Rattle.rbd_layout.specs.Pieces.{pieces_of}
use Rattle.rbd_layout.specs.declared.types.Piece.{Piece}
use Rattle.rbd_header.specs.Header.{context_of}
use Rattle.rbd_machine.specs.Plan.{Plan}
use Rattle.rbd_machine.specs.Standalone.{IsStandalone}
use Rattle.rbd_machine.specs.Steps.{on_done, applied}
use Rattle.rbd_meaning.specs.Resizes.{resize_refuses}
use Rattle.rbd_meaning.specs.Rollbacks.{at_size, rollback_refuses}
use Rattle.rbd_meaning.specs.Writes.{write_refuses}
use Rattle.rbd_pieces.specs.Full.{cut_bytes, full_by, full_piece}
use Rattle.rbd_pieces.specs.Operations.{data_remove}
use Rattle.rbd_pieces.specs.Shrink.{pieces_from}
use Rattle.rbd_pieces.specs.Size.{cutting, resize, resize_by, sizing}
use Rattle.rbd_pieces.specs.Size as of_size
use Rattle.rbd_pieces.specs.Zero.{head_of, is_below, is_inside, is_whole, removing, setting, zero_all, zero_by, zero_piece}
use Rattle.rbd_data.specs.Discard.{discard, zero, zero_in_turns}
use Rattle.rbd_meaning.specs.Count.{object_count}
use Rattle.rbd_image.specs.Resize.{set_size, size_change}
use Rattle.rbd_snap.specs.Rollback.{restore_all, restore_pieces, roll_back_listed, roll_back_to, rollback}
use Rattle.rbd_interference.specs.Owed.{Due, Gone, Lowered, PaysItsStates, Spot, owed_by}
use Rattle.rbd_interference.proofs.PaysSteps.{Pays, pays_change, pays_ends, pays_gather, pays_making, pays_set}
use Rattle.rbd_catalog.proofs.PlanSteps.{at_not_there, at_done, at_bits}

-- ---- one object

module _ (site : SiteId) (image : ℕ) (context : SnapContext) (p : Piece) (next : Plan) (pays : Pays next) where
  abbrev spot : Due → Spot
  spot due = record { site = site; image = image; object = p.object; due = due }

  -- it went, and its state is set to 0
  pays_lowering : PaysItsStates (Some (spot Lowered)) (setting site image context p 0 next)
  pays_lowering = ((refl, (refl, refl, refl)), λ a given told. pays_set site image p.object (Some (spot Lowered)) 0 next pays a)

  pays_removing : PaysItsStates (Some (spot Gone)) (removing site image context p (setting site image context p 0 next))
  pays_removing = ((refl, (refl, refl, refl)), λ a given told. by a)
    where
      by : (a : Answer) → PaysItsStates (owed_by (Some (spot Gone)) site (data_remove image context p.object) a) (on_done (setting site image context p 0 next) a)
      by answer.Done = pays_lowering
      by a = at_not_there Pays pays_ends a

  -- all bytes of it
  pays_zero_all : (inside : Bool) → Pays (zero_all site image context p inside next)
  pays_zero_all false = (tt, λ a given told. pays_set site image p.object None 2 (removing site image context p (setting site image context p 0 next)) pays_removing a)
  pays_zero_all true = pays_making site image p.object (object.Empty context) next refl pays

  -- of an image without a parent
  pays_zero_by : (whole : Bool) → Pays (zero_by site image context p whole false next)
  pays_zero_by false = (tt, λ a given told. at_done Pays pays_ends next pays a)
  pays_zero_by true = pays_zero_all false

outside : (h : HeaderView) (number : ℕ) → IsStandalone h → is_inside h number ≡ false
outside h number standalone = ap (λ parent. is_below parent (byte_at h.layout number 0)) standalone.no_parent

pays_zero_piece : (site : SiteId) (image : ℕ) (h : HeaderView) (p : Piece) (next : Plan) → IsStandalone h → Pays next → Pays (zero_piece site image h p next)
pays_zero_piece site image h p next standalone pays =
    subst (λ inside. Pays (zero_by site image (context_of h) p (is_whole h p) inside next)) (sym (outside h p.object standalone))
    (pays_zero_by site image (context_of h) p next pays (is_whole h p))

pays_full_piece : (site : SiteId) (image : ℕ) (h : HeaderView) (p : Piece) (bytes : List ℕ) (next : Plan) → Pays next → Pays (full_piece site image h p bytes next)
pays_full_piece site image h p bytes next pays = by (cut_bytes bytes)
  where
    by : (left : List ℕ) → Pays (full_by site image h p left next)
    by [] = pays_zero_all site image (context_of h) p next pays (is_inside h p.object)
    by (byte ∷ left) = pays_making site image p.object (object.WriteFull (context_of h) (byte ∷ left)) next refl pays

-- ---- discard

pays_pieces : (pieces : List Piece) (site : SiteId) (image : ℕ) (h : HeaderView) (next : Plan) → IsStandalone h → Pays next → Pays (zero_in_turns site image h pieces next)
pays_pieces [] site image h next standalone pays = pays
pays_pieces (p ∷ pieces) site image h next standalone pays =
    pays_zero_piece site image h p (zero_in_turns site image h pieces next) standalone (pays_pieces pieces site image h next standalone pays)

pub pays_discard : (site : SiteId) (name : List ℕ) (e : Extent) → Pays (discard site name e)
pays_discard site name e =
    pays_change site name sharing.Discard (write_refuses e) (zero site e) (λ image h standalone. pays_pieces (pieces_of h.layout e) site image h (applied site image) standalone tt)

-- ---- resize

pays_sizing : (site : SiteId) (image to : ℕ) (next : Plan) → Pays next → Pays (sizing site image to next)
pays_sizing site image to next pays = (tt, λ a given told. at_done Pays pays_ends next pays a)

pays_zeros : (pieces : List Piece) (site : SiteId) (image : ℕ) (h : HeaderView) (next : Plan) → IsStandalone h → Pays next → Pays (of_size.zero_pieces site image h pieces next)
pays_zeros [] site image h next standalone pays = pays
pays_zeros (p ∷ pieces) site image h next standalone pays =
    pays_zero_piece site image h p (of_size.zero_pieces site image h pieces next) standalone (pays_zeros pieces site image h next standalone pays)

pays_resize : (site : SiteId) (image : ℕ) (h : HeaderView) (to objects : ℕ) (next : Plan) → IsStandalone h → Pays next → Pays (resize site image h to objects next)
pays_resize site image h to objects next standalone pays = by (nat_le h.size to)
  where
    by : (grows : Bool) → Pays (resize_by grows site image h to objects next)
    by true = (tt, λ a given told. at_done Pays pays_ends (sizing site image to next) (pays_sizing site image to next pays) a)
    by false = (
      tt,
      λ a given told.
          at_bits Pays pays_ends (cutting site image h to next)
          (λ bits. pays_zeros (pieces_from h to bits) site image h (sizing site image to next) standalone (pays_sizing site image to next pays)) a,
    )

pub pays_size_change : (site : SiteId) (name : List ℕ) (to : ℕ) → Pays (size_change site name to)
pays_size_change site name to =
    pays_change site name sharing.Alone (resize_refuses to) (set_size site to)
    (λ image h standalone. pays_resize site image h to (object_count h.layout to) (applied site image) standalone tt)

-- ---- snap rollback

pays_restore : (pieces : List Piece) (site : SiteId) (image : ℕ) (h : HeaderView) (snap : ℕ) (next : Plan) → Pays next → Pays (restore_pieces site image h snap pieces next)
pays_restore [] site image h snap next pays = pays
pays_restore (p ∷ pieces) site image h snap next pays =
    pays_gather (p ∷ []) site image (Some snap) [] (λ bytes. full_piece site image h p bytes (restore_pieces site image h snap pieces next))
    (λ bytes. pays_full_piece site image h p bytes (restore_pieces site image h snap pieces next) (pays_restore pieces site image h snap next pays))

pays_listed : (site : SiteId) (snap : List ℕ) (image : ℕ) (h : HeaderView) (listed : Option SnapView) → IsStandalone h → Pays (roll_back_listed site snap image h listed)
pays_listed site snap image h None standalone = tt
pays_listed site snap image h (Some listed) standalone =
    let sized = at_size listed.size h in
    pays_resize site image h listed.size (object_count h.layout listed.size) (restore_all site image sized listed.id (applied site image)) standalone
    (pays_restore (pieces_of sized.layout (head_of sized)) site image sized listed.id (applied site image) tt)

pub pays_rollback : (site : SiteId) (name snap : List ℕ) → Pays (rollback site name snap)
pays_rollback site name snap =
    pays_change site name sharing.Alone (rollback_refuses snap) (roll_back_to site snap) (λ image h standalone. pays_listed site snap image h (snap_named h.snaps snap) standalone)
