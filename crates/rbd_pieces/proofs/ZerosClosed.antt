-- Parts go to no label of their own.
use Rattle.std.proofs.Common.{ℕ, Bool, true, false, List, [], ◌∷◌}
use Rattle.std.specs.Prelude.{nat_le}
use Rattle.rbd_kinds.specs.declared.header.HeaderView.{HeaderView}
use Rattle.rbd_kinds.specs.declared.header.SnapContext.{SnapContext}
use Rattle.rbd_kinds.specs.declared.id.SiteId.{SiteId}
use Rattle.rbd_layout.specs.declared.types.Piece.{Piece}
use Rattle.rbd_header.specs.Header.{context_of}
use Rattle.rbd_machine.specs.Label.{Label}
use Rattle.rbd_machine.specs.Plan.{Plan, IsClosed}
use Rattle.rbd_machine.proofs.Closed.{closed_on_bits, closed_on_done}
use Rattle.rbd_pieces.specs.Full.{cut_bytes, full_by, full_piece, writing_full}
use Rattle.rbd_pieces.specs.Shrink.{pieces_from}
use Rattle.rbd_pieces.specs.Size.{cutting, resize, resize_by, sizing, zero_pieces}
use Rattle.rbd_pieces.specs.Zero.{emptying, is_inside, is_whole, removing, setting, zero_all, zero_by, zero_piece, zeroing}

module _ (labels : Label → Plan) where
  -- ---- a piece

  closed_all : (inside : Bool) (site : SiteId) (image : ℕ) (context : SnapContext) (piece : Piece) (next : Plan) → IsClosed labels next → IsClosed labels (zero_all site image context piece inside next)
  closed_all true site image context piece next closed = closed_on_done labels (emptying site image context piece next) (closed_on_done labels next closed)
  closed_all false site image context piece next closed =
      closed_on_done labels (removing site image context piece (setting site image context piece 0 next))
      (closed_on_done labels (setting site image context piece 0 next) (closed_on_done labels next closed))

  closed_by : (whole inside : Bool) (site : SiteId) (image : ℕ) (context : SnapContext) (piece : Piece) (next : Plan) → IsClosed labels next → IsClosed labels (zero_by site image context piece whole inside next)
  closed_by true inside site image context piece next closed = closed_all inside site image context piece next closed
  closed_by false true site image context piece next closed = closed_on_done labels (zeroing site image context piece true next) (closed_on_done labels next closed)
  closed_by false false site image context piece next closed = closed_on_done labels next closed

  pub closed_zero : (site : SiteId) (image : ℕ) (h : HeaderView) (piece : Piece) (next : Plan) → IsClosed labels next → IsClosed labels (zero_piece site image h piece next)
  closed_zero site image h piece next closed = closed_by (is_whole h piece) (is_inside h piece.object) site image (context_of h) piece next closed

  closed_full_by : (left : List ℕ) (site : SiteId) (image : ℕ) (h : HeaderView) (piece : Piece) (next : Plan) → IsClosed labels next → IsClosed labels (full_by site image h piece left next)
  closed_full_by [] site image h piece next closed = closed_all (is_inside h piece.object) site image (context_of h) piece next closed
  closed_full_by (byte ∷ left) site image h piece next closed =
      closed_on_done labels (writing_full site image (context_of h) piece.object (byte ∷ left) next) (closed_on_done labels next closed)

  pub closed_full : (site : SiteId) (image : ℕ) (h : HeaderView) (piece : Piece) (bytes : List ℕ) (next : Plan) → IsClosed labels next → IsClosed labels (full_piece site image h piece bytes next)
  closed_full site image h piece bytes next closed = closed_full_by (cut_bytes bytes) site image h piece next closed

  -- ---- a size

  closed_pieces : (pieces : List Piece) (site : SiteId) (image : ℕ) (h : HeaderView) (next : Plan) → IsClosed labels next → IsClosed labels (zero_pieces site image h pieces next)
  closed_pieces [] site image h next closed = closed
  closed_pieces (p ∷ pieces) site image h next closed = closed_zero site image h p (zero_pieces site image h pieces next) (closed_pieces pieces site image h next closed)

  closed_resize_by : (grows : Bool) (site : SiteId) (image : ℕ) (h : HeaderView) (to objects : ℕ) (next : Plan) → IsClosed labels next → IsClosed labels (resize_by grows site image h to objects next)
  closed_resize_by true site image h to objects next closed = closed_on_done labels (sizing site image to next) (closed_on_done labels next closed)
  closed_resize_by false site image h to objects next closed =
      closed_on_bits labels (cutting site image h to next) (λ bits. closed_pieces (pieces_from h to bits) site image h (sizing site image to next) (closed_on_done labels next closed))

  pub closed_resize : (site : SiteId) (image : ℕ) (h : HeaderView) (to objects : ℕ) (next : Plan) → IsClosed labels next → IsClosed labels (resize site image h to objects next)
  closed_resize site image h to objects next closed = closed_resize_by (nat_le h.size to) site image h to objects next closed
