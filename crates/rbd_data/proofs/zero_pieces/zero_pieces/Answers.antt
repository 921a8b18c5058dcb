use Rattle.std.proofs.Common.{◌≡◌, ◌+◌, ◌≤◌, All, arith, map, sym, ap, ◌∙◌, subst}
use Rattle.rbd_layout.proofs.Bounds.{few_bytes}
use Rattle.rbd_layout.proofs.Listed.{pieces_again}
use Rattle.rbd_layout.specs.Pieces.{piece_in, pieces_of}
use Rattle.rbd_change.proofs.InTurn.{next_in_turn}
use Rattle.rbd_data.proofs.Writes.{within_size}
use Rattle.rbd_pieces.specs.Zero.{IsOfHead, zero_piece}
use Rattle.rbd_pieces.proofs.Sizes.{first_number, objects_of_head, rest_of_numbers}
use Rattle.rbd_data.specs.Discard.{turn_object, rest_of_piece, rest_of_pieces, zero_in_turns}
use Rattle.rbd_data.proofs.zero_pieces.zero_pieces.Goals as goal

pub objects_within-requires-clause-end : goal.objects_within-requires-clause-end
objects_within-requires-clause-end c =
    let h = c.args.header.now in
    let e = c.args.extent.now in
    let few : h.size ≤ 35184372088832 = few_bytes h.layout c.requires.form.layout h.size c.requires.form.objects in
    let within : e.at + e.len ≤ h.size = within_size e h.size c.requires.fits in
    omega arith

pub loop-object-init : goal.loop-object-init
loop-object-init c =
    let h = c.args.header.now in
    let e = c.args.extent.now in
    let given = c.into_iter-object-iterator.ensures.into_iter_gives.0 ∙ c.in_ok-touched.ensures in
    let within : e.at + e.len ≤ h.size = within_size e h.size c.requires.fits in
    record {
      made = λ next. rw c.new-made.ensures.items
          (ap (λ pieces. zero_in_turns c.args.target.site c.args.target.image h pieces next) (ap (map (piece_in h.layout e)) given ∙ pieces_again h.layout e 0 (e.at + e.len)));
      head = subst (All (IsOfHead h)) (sym given) (objects_of_head h e c.requires.form.layout within);
    }

pub zero_piece-requires-clause-head : goal.zero_piece-requires-clause-head
zero_piece-requires-clause-head c =
    let h = c.args.header.now in
    first_number h c.in-Some.object c.next.new.self.rest.items (subst (All (IsOfHead h)) c.in-Some.ensures.steps.0 c.loop-object.invariant.head)

pub zero_piece-requires-clause-within : goal.zero_piece-requires-clause-within
zero_piece-requires-clause-within c = within_size c.args.extent.now c.args.header.now.size c.requires.fits

pub loop-object-preserved : goal.loop-object-preserved
loop-object-preserved c =
    let h = c.args.header.now in
    let e = c.args.extent.now in
    let t = c.args.target in
    let left = map (piece_in h.layout e) c.next.new.self.rest.items in
    record {
      made = λ next.
          subst (λ made. rest_of_pieces made (zero_in_turns t.site t.image h left next) ≡ zero_in_turns t.site t.image h (pieces_of h.layout e) next) (sym c.in_ok-push_back.ensures.items)
          (next_in_turn rest_of_piece turn_object c.loop-object.made.items c.in_ok-zero_piece.field-0 c.in-Some.object (zero_piece t.site t.image h (piece_in h.layout e c.in-Some.object)) (zero_in_turns t.site t.image h left next) c.in_ok-zero_piece.ensures.plan c.in_ok-zero_piece.ensures.object
          ∙ ap (λ objects. rest_of_pieces c.loop-object.made.items (zero_in_turns t.site t.image h (map (piece_in h.layout e) objects) next)) (sym c.in-Some.ensures.steps.0)
          ∙ c.loop-object.invariant.made next);
      head = rest_of_numbers h c.in-Some.object c.next.new.self.rest.items (subst (All (IsOfHead h)) c.in-Some.ensures.steps.0 c.loop-object.invariant.head);
    }
