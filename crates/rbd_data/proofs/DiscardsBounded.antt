-- How many operations a discard has.
use Rattle.std.proofs.Common.{◌≡◌, ℕ, ◌+◌, ◌*◌, ◌≤◌, suc, List, [], ◌∷◌, length, subst, arith}
use Rattle.rbd_kinds.specs.declared.sharing.Sharing.TheVariants as sharing
use Rattle.rbd_kinds.specs.declared.header.HeaderView.{HeaderView}
use Rattle.rbd_kinds.specs.declared.id.SiteId.{SiteId}
use Rattle.rbd_kinds.specs.declared.layout.Extent.{Extent}
use Rattle.rbd_layout.specs.Pieces.{pieces_of}
use Rattle.rbd_layout.specs.declared.types.Piece.{Piece}
use Rattle.rbd_machine.specs.Path.{IsBounded}
use Rattle.rbd_machine.specs.Steps.{applied}
use Rattle.rbd_machine.proofs.Bounds.{bounded_change, bounded_more}
use Rattle.rbd_meaning.specs.Writes.{write_refuses}
use Rattle.rbd_pieces.proofs.ZerosBounded.{bounded_zero}
use Rattle.rbd_data.specs.Discard.{discard, zero, zero_in_turns}

bounded_pieces : (pieces : List Piece) (site : SiteId) (image : ℕ) (h : HeaderView) → IsBounded (zero_in_turns site image h pieces (applied site image)) (3 * length pieces)
bounded_pieces [] site image h = tt
bounded_pieces (p ∷ pieces) site image h =
    let three_more : suc (suc (suc (3 * length pieces))) ≡ 3 * length (p ∷ pieces) = omega arith in
    subst (IsBounded (zero_in_turns site image h (p ∷ pieces) (applied site image))) three_more
    (bounded_zero site image h p (zero_in_turns site image h pieces (applied site image)) (3 * length pieces) (bounded_pieces pieces site image h))

pub bounded_own : (site : SiteId) (e : Extent) (image : ℕ) (h : HeaderView) → IsBounded (zero site e image h) (3 * length (pieces_of h.layout e))
bounded_own site e image h = bounded_pieces (pieces_of h.layout e) site image h

pub bounded_discard : (site : SiteId) (name : List ℕ) (e : Extent) (most : ℕ) → ((h : HeaderView) → length (pieces_of h.layout e) ≤ most) → IsBounded (discard site name e) (3 * most + 3)
bounded_discard site name e most few =
    let three_more : suc (suc (suc (3 * most))) ≡ 3 * most + 3 = omega arith in
    subst (IsBounded (discard site name e)) three_more
    (bounded_change site (write_refuses e) (zero site e) (3 * most)
    (λ image h.
    let n = length (pieces_of h.layout e) in
    let less : n ≤ most = few h in
    bounded_more (zero site e image h) (3 * n) (3 * most) (omega arith) (bounded_own site e image h)) name sharing.Discard)
