use Rattle.std.proofs.Common.{◌≡◌, ◌∙◌, [], drop, replicate, sym, ap, subst, arith}
use Rattle.std.proofs.Math.ListN.{drop_of_length-le}
use Rattle.rbd_layout.proofs.Listed.{pieces_of_alone}
use Rattle.rbd_layout.specs.Pieces.{IsPieces}
use Rattle.rbd_layout.specs.declared.types.Piece.{Piece}
use Rattle.rbd_parts.specs.Parts.{AreBehind, EndBefore}
use Rattle.rbd_meaning.specs.Arrange.{arranged}
use Rattle.rbd_data.proofs.Arranged.{pieces_lie}
use Rattle.rbd_data.proofs.arrange.arrange.Goals as goal

pub put_parts-rest-requires-clause-behind : goal.put_parts-rest-requires-clause-behind
put_parts-rest-requires-clause-behind c =
    let e = c.args.extent.now in
    let are = subst (IsPieces c.args.layout.now e) (sym c.as_slice-piece-items.ensures.value) c.in_ok-listed.ensures.pieces in
    let lie = pieces_lie c.args.layout.now e c.as_slice-piece-items.result.now are c.loop-piece.piece-index c.piece-item.result c.loop-piece-test.true in
    subst (AreBehind e.at) (sym c.as_slice.ensures) (subst (λ (p : Piece). AreBehind e.at p.parts) (sym c.piece-item.is) lie.0)

pub put_parts-rest-requires-clause-before : goal.put_parts-rest-requires-clause-before
put_parts-rest-requires-clause-before c =
    let e = c.args.extent.now in
    let are = subst (IsPieces c.args.layout.now e) (sym c.as_slice-piece-items.ensures.value) c.in_ok-listed.ensures.pieces in
    let lie = pieces_lie c.args.layout.now e c.as_slice-piece-items.result.now are c.loop-piece.piece-index c.piece-item.result c.loop-piece-test.true in
    subst (EndBefore e.at e.len) (sym c.as_slice.ensures) (subst (λ (p : Piece). EndBefore e.at e.len p.parts) (sym c.piece-item.is) lie.1)

pub returns : goal.returns
returns c =
    let e = c.args.extent.now in
    let items = c.as_slice-piece-items.result.now in
    let none : drop c.loop-piece.piece-index items ≡ [] = drop_of_length-le items (omega arith) in
    c.from_vec.ensures
    ∙ sym (ap (λ ps. arranged e.at ps c.loop-piece.rest.now c.loop-piece.into.items) none)
    ∙ c.loop-piece.invariant.left
    ∙ ap (λ ps. arranged e.at ps c.args.read.now (replicate e.len 0)) (c.as_slice-piece-items.ensures.value ∙ pieces_of_alone c.args.layout.now c.requires.layout e c.in_ok-listed.listed.items c.in_ok-listed.ensures.pieces)
