-- How many operations parts have.
use Rattle.std.proofs.Common.{◌≡◌, ℕ, suc, ◌+◌, ◌*◌, ◌≤◌, ◌<◌, Bool, true, false, if◌then◌else◌, List, [], ◌∷◌, length, subst, arith}
use Rattle.std.specs.Prelude.{filter}
use Rattle.rbd_machine.specs.Steps.{on_bits}
use Rattle.rbd_kinds.specs.declared.answer.Answer.{Answer}
use Rattle.rbd_kinds.specs.declared.answer.Answer.TheVariants as answer
use Rattle.rbd_kinds.specs.declared.header.HeaderView.{HeaderView}
use Rattle.rbd_kinds.specs.declared.header.SnapContext.{SnapContext}
use Rattle.rbd_kinds.specs.declared.id.SiteId.{SiteId}
use Rattle.rbd_layout.specs.declared.types.Piece.{Piece}
use Rattle.rbd_layout.specs.Pieces.{pieces_of}
use Rattle.rbd_header.specs.Header.{context_of}
use Rattle.rbd_machine.specs.Path.{IsBounded}
use Rattle.rbd_machine.specs.Plan.{Plan}
use Rattle.rbd_machine.proofs.Bounds.{bounded_more, bounded_not_there, bounded_on_done}
use Rattle.rbd_pieces.specs.Full.{cut_bytes, full_by, full_piece, writing_full}
use Rattle.rbd_pieces.specs.Shrink.{piece_has_bytes, head_from, pieces_from}
use Rattle.rbd_pieces.specs.Size.{cutting, growing, resize, shrinking, sizing, zero_pieces}
use Rattle.rbd_pieces.specs.Zero.{emptying, is_inside, is_whole, removing, setting, zero_all, zero_by, zero_piece, zeroing}
use Rattle.rbd_pieces.proofs.Sizes.{grows, shrinks}

-- ---- a piece

module _ (site : SiteId) (image : ℕ) (context : SnapContext) (piece : Piece) (next : Plan) (n : ℕ) (b : IsBounded next n) where
  once : IsBounded next (suc n)
  once = bounded_more next n (suc n) (omega arith) b

  twice : IsBounded next (suc (suc n))
  twice = bounded_more next n (suc (suc n)) (omega arith) b

  bounded_all : (inside : Bool) → IsBounded (zero_all site image context piece inside next) (suc (suc (suc n)))
  bounded_all true = bounded_on_done (emptying site image context piece next) (suc (suc n)) (bounded_on_done next (suc n) once)
  bounded_all false =
      bounded_on_done (removing site image context piece (setting site image context piece 0 next)) (suc (suc n))
      (bounded_on_done (setting site image context piece 0 next) (suc n) (bounded_on_done next n b))

  bounded_by : (whole inside : Bool) → IsBounded (zero_by site image context piece whole inside next) (suc (suc (suc n)))
  bounded_by true inside = bounded_all inside
  bounded_by false true = bounded_on_done (zeroing site image context piece true next) (suc (suc n)) (bounded_on_done next (suc n) once)
  bounded_by false false = bounded_on_done next (suc (suc n)) twice

pub bounded_zero : (site : SiteId) (image : ℕ) (h : HeaderView) (piece : Piece) (next : Plan) (n : ℕ) → IsBounded next n → IsBounded (zero_piece site image h piece next) (suc (suc (suc n)))
bounded_zero site image h piece next n b = bounded_by site image (context_of h) piece next n b (is_whole h piece) (is_inside h piece.object)

bounded_full_by : (site : SiteId) (image : ℕ) (h : HeaderView) (piece : Piece) (left : List ℕ) (next : Plan) (n : ℕ) → IsBounded next n → IsBounded (full_by site image h piece left next) (suc (suc (suc n)))
bounded_full_by site image h piece [] next n b = bounded_all site image (context_of h) piece next n b (is_inside h piece.object)
bounded_full_by site image h piece (byte ∷ left) next n b =
    bounded_on_done (writing_full site image (context_of h) piece.object (byte ∷ left) next) (suc (suc n))
    (bounded_on_done next (suc n) (bounded_more next n (suc n) (omega arith) b))

pub bounded_full : (site : SiteId) (image : ℕ) (h : HeaderView) (piece : Piece) (bytes : List ℕ) (next : Plan) (n : ℕ) → IsBounded next n → IsBounded (full_piece site image h piece bytes next) (suc (suc (suc n)))
bounded_full site image h piece bytes next n b = bounded_full_by site image h piece (cut_bytes bytes) next n b

-- ---- a size

bounded_sizing : (site : SiteId) (image to : ℕ) (next : Plan) (n : ℕ) → IsBounded next n → IsBounded (sizing site image to next) (suc n)
bounded_sizing site image to next n b = bounded_on_done next n b

bounded_growing : (site : SiteId) (image to objects : ℕ) (next : Plan) (n : ℕ) → IsBounded next n → IsBounded (growing site image to objects next) (suc (suc n))
bounded_growing site image to objects next n b = bounded_on_done (sizing site image to next) (suc n) (bounded_sizing site image to next n b)

bounded_pieces : (pieces : List Piece) (site : SiteId) (image : ℕ) (h : HeaderView) (next : Plan) (n : ℕ) → IsBounded next n → IsBounded (zero_pieces site image h pieces next) (n + 3 * length pieces)
bounded_pieces [] site image h next n b = let same : n ≡ n + 3 * 0 = omega arith in subst (IsBounded next) same b
bounded_pieces (p ∷ pieces) site image h next n b =
    let same : suc (suc (suc (n + 3 * length pieces))) ≡ n + 3 * suc (length pieces) = omega arith in
    subst (IsBounded (zero_pieces site image h (p ∷ pieces) next)) same
    (bounded_zero site image h p (zero_pieces site image h pieces next) (n + 3 * length pieces) (bounded_pieces pieces site image h next n b))

few_pieces : (h : HeaderView) (to : ℕ) (bits : List ℕ) → length (pieces_from h to bits) ≤ length (pieces_of h.layout (head_from h to))
few_pieces h to bits = fewer (pieces_of h.layout (head_from h to))
  where
    step : (b : Bool) (p : Piece) (kept all : List Piece) → length kept ≤ length all → length (if b then p ∷ kept else kept) ≤ suc (length all)
    step true p kept all less = omega arith
    step false p kept all less = omega arith

    fewer : (pieces : List Piece) → length (filter (piece_has_bytes h bits) pieces) ≤ length pieces
    fewer [] = omega arith
    fewer (p ∷ pieces) = step (piece_has_bytes h bits p) p (filter (piece_has_bytes h bits) pieces) pieces (fewer pieces)

module _ (site : SiteId) (image : ℕ) (h : HeaderView) (to : ℕ) (next : Plan) (n : ℕ) (b : IsBounded next n) where
  bounded_cutting : (bits : List ℕ) → IsBounded (cutting site image h to next bits) (n + 1 + 3 * length (pieces_of h.layout (head_from h to)))
  bounded_cutting bits =
      let few = few_pieces h to bits in
      let one : suc n ≡ n + 1 = omega arith in
      bounded_more (cutting site image h to next bits) (n + 1 + 3 * length (pieces_from h to bits)) (n + 1 + 3 * length (pieces_of h.layout (head_from h to))) (omega (arith, few))
      (bounded_pieces (pieces_from h to bits) site image h (sizing site image to next) (n + 1) (subst (IsBounded (sizing site image to next)) one (bounded_sizing site image to next n b)))

  bounded_on_bits : (a : Answer) → IsBounded (on_bits (cutting site image h to next) a) (n + 1 + 3 * length (pieces_of h.layout (head_from h to)))
  bounded_on_bits (answer.Bits bits) = bounded_cutting bits
  bounded_on_bits a = bounded_not_there a (n + 1 + 3 * length (pieces_of h.layout (head_from h to)))

  pub bounded_shrink : (objects : ℕ) → to < h.size → IsBounded (resize site image h to objects next) (n + 2 + 3 * length (pieces_of h.layout (head_from h to)))
  bounded_shrink objects less =
      let same : suc (n + 1 + 3 * length (pieces_of h.layout (head_from h to))) ≡ n + 2 + 3 * length (pieces_of h.layout (head_from h to)) = omega arith in
      subst (λ plan. IsBounded plan (n + 2 + 3 * length (pieces_of h.layout (head_from h to)))) (shrinks site image h to objects next less)
      (subst (IsBounded (shrinking site image h to next)) same bounded_on_bits)

  pub bounded_grow : (objects : ℕ) → h.size ≤ to → IsBounded (resize site image h to objects next) (suc (suc n))
  bounded_grow objects more = subst (λ plan. IsBounded plan (suc (suc n))) (grows site image h to objects next more) (bounded_growing site image to objects next n b)
