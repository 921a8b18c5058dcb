use Rattle.std.proofs.Common.{◌≡◌, ◌+◌, ◌≤◌, length, All, arith, sym, ap, ◌∙◌, subst}
use Rattle.rbd_layout.proofs.Bounds.{few_bytes}
use Rattle.rbd_layout.proofs.Listed.{pieces_of_alone}
use Rattle.rbd_layout.specs.Pieces.{pieces_of, IsPieces}
use Rattle.rbd_layout.specs.declared.types.Piece.{Piece}
use Rattle.rbd_parts.specs.Parts.{AreBehind, bytes_for}
use Rattle.rbd_change.proofs.InTurn.{next_in_turn}
use Rattle.rbd_pieces.specs.Write.{write_piece}
use Rattle.rbd_meaning.specs.Range.{extent_at}
use Rattle.rbd_data.specs.Write.{turn_object, rest_of_piece, rest_of_pieces, write_pieces}
use Rattle.rbd_data.proofs.Writes.{within_size, pieces_behind, behind_first, behind_rest}
use Rattle.rbd_data.proofs.write_pieces.write_pieces.Goals as goal

pub pieces-requires-clause-end : goal.pieces-requires-clause-end
pieces-requires-clause-end c =
    let few : c.args.header.now.size ≤ 35184372088832 = few_bytes c.args.header.now.layout c.requires.form.layout c.args.header.now.size c.requires.form.objects in
    let within : c.args.at + length c.args.bytes.now ≤ c.args.header.now.size = within_size (extent_at c.args.at c.args.bytes.now) c.args.header.now.size c.requires.fits in
    omega arith

pub loop-piece-init : goal.loop-piece-init
loop-piece-init c =
    let e = extent_at c.args.at c.args.bytes.now in
    let h = c.args.header.now in
    let given : c.into_iter-piece-iterator.result.rest.items ≡ c.in_ok-listed.listed.items = c.into_iter-piece-iterator.ensures.into_iter_gives.0 in
    let listed : IsPieces h.layout e c.in_ok-listed.listed.items = subst (λ len. IsPieces h.layout (record { at = c.args.at; len = len }) c.in_ok-listed.listed.items) c.len.ensures c.in_ok-listed.ensures.pieces in
    record {
      made = λ next. rw c.new-made.ensures.items (ap (λ pieces. write_pieces c.args.target.site c.args.target.image h c.args.at c.args.bytes.now pieces next) (given ∙ pieces_of_alone h.layout c.requires.form.layout e c.in_ok-listed.listed.items listed));
      behind = subst (All (λ (p : Piece). AreBehind c.args.at p.parts)) (sym given) (pieces_behind h.layout e c.in_ok-listed.listed.items listed);
    }

pub write_piece-requires : goal.write_piece-requires
write_piece-requires c = behind_first c.args.at c.in-Some.piece c.next.new.self.rest.items (subst (All (λ (p : Piece). AreBehind c.args.at p.parts)) c.in-Some.ensures.steps.0 c.loop-piece.invariant.behind)

pub loop-piece-preserved : goal.loop-piece-preserved
loop-piece-preserved c =
    let h = c.args.header.now in
    record {
      made = λ next.
          subst (λ made. rest_of_pieces made (write_pieces c.args.target.site c.args.target.image h c.args.at c.args.bytes.now c.next.new.self.rest.items next) ≡ write_pieces c.args.target.site c.args.target.image h c.args.at c.args.bytes.now (pieces_of h.layout (extent_at c.args.at c.args.bytes.now)) next) (sym c.in_ok-push_back.ensures.items)
          (next_in_turn rest_of_piece turn_object c.loop-piece.made.items c.in_ok-write_piece.field-0 c.in-Some.piece.object (write_piece c.args.target.site c.args.target.image h c.in-Some.piece (bytes_for c.in-Some.piece.parts c.args.at c.args.bytes.now)) (write_pieces c.args.target.site c.args.target.image h c.args.at c.args.bytes.now c.next.new.self.rest.items next) (λ rest. c.in_ok-write_piece.ensures.plan h rest c.in_ok-context.ensures) c.in_ok-write_piece.ensures.object
          ∙ ap (λ pieces. rest_of_pieces c.loop-piece.made.items (write_pieces c.args.target.site c.args.target.image h c.args.at c.args.bytes.now pieces next)) (sym c.in-Some.ensures.steps.0)
          ∙ c.loop-piece.invariant.made next);
      behind = behind_rest c.args.at c.in-Some.piece c.next.new.self.rest.items (subst (All (λ (p : Piece). AreBehind c.args.at p.parts)) c.in-Some.ensures.steps.0 c.loop-piece.invariant.behind);
    }
