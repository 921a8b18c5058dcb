-- The objects of an extent are apart.
use Rattle.std.proofs.Common.{◌≡◌, ℕ, ◌<◌, ◌||◌, cond, Bool, true, false, List, [], ◌∷◌, All, AllPairs, Option, Some, None, refl, ap, ◌∙◌, arith}
use Rattle.std.proofs.lemmas.Bool.{ne_eqb}
use Rattle.std.proofs.lemmas.List.Elements.{All-head, All-tail}
use Rattle.rbd_machine.specs.Course.{objects_of, objects_asked}
use Rattle.rbd_guard.specs.Order.{is_in, AreApart}
use Rattle.rbd_kinds.specs.declared.header.HeaderView.{HeaderView}
use Rattle.rbd_kinds.specs.declared.layout.Extent.{Extent}
use Rattle.rbd_kinds.specs.Extents.{fits}
use Rattle.rbd_kinds.specs.Form.{IsHeaderInForm}
use Rattle.rbd_layout.specs.Pieces.{pieces_of}
use Rattle.rbd_layout.proofs.Listed.{pieces_listed}
use Rattle.rbd_layout.proofs.Unique.{AllPairs-head, AllPairs-tail}
use Rattle.rbd_layout.specs.declared.types.Piece.{Piece}

above : (n : ℕ) (pieces : List Piece) → All (λ (q : Piece). n < q.object) pieces → is_in n (objects_of pieces) ≡ false
above n [] all = refl
above n (q ∷ pieces) all =
    let less : n < q.object = All-head (λ (q : Piece). n < q.object) q pieces all in
    ap (λ b. b || is_in n (objects_of pieces)) (ne_eqb q.object n (λ same. omega arith))
    ∙ above n pieces (All-tail (λ (q : Piece). n < q.object) q pieces all)

ascending_apart : (pieces : List Piece) → AllPairs (λ (p q : Piece). p.object < q.object) pieces → AreApart (objects_of pieces)
ascending_apart [] pairs = tt
ascending_apart (p ∷ pieces) pairs = (
  above p.object pieces (AllPairs-head (λ (p q : Piece). p.object < q.object) p pieces pairs),
  ascending_apart pieces (AllPairs-tail (λ (p q : Piece). p.object < q.object) p pieces pairs),
)

pub asked_apart : (h : HeaderView) (e : Option Extent) → IsHeaderInForm h → AreApart (objects_asked h e)
asked_apart h None form = tt
asked_apart h (Some e) form = go (fits e h.size)
  where
    go : (b : Bool) → AreApart (cond b (objects_of (pieces_of h.layout e)) [])
    go true = ascending_apart (pieces_of h.layout e) (pieces_listed h.layout form.layout e).ascending
    go false = tt
