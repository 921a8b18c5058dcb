-- Each piece that was written has its effect: the bytes go to the places of its parts. Its state in
-- the map has none.
use Rattle.std.proofs.Common.{◌≡◌, ℕ, false, List, [], ◌∷◌, ◌++◌, map, Some, refl, sym, ap, ◌∙◌, subst, length}
use Rattle.std.proofs.lemmas.List.Elements.{All-weaker}
use Rattle.rbd_header.specs.Header.{context_of}
use Rattle.rbd_kinds.specs.declared.answer.Answer.TheVariants as answer
use Rattle.rbd_kinds.specs.declared.header.HeaderView.{HeaderView}
use Rattle.rbd_kinds.specs.declared.id.SiteId.{SiteId}
use Rattle.rbd_kinds.specs.declared.operation.Op.{Op}
use Rattle.rbd_layout.specs.declared.types.Piece.{Piece}
use Rattle.rbd_machine.specs.Knowledge.{maps_of}
use Rattle.rbd_machine.specs.Objects.{data_write}
use Rattle.rbd_machine.specs.Path.{Answered}
use Rattle.rbd_machine.specs.Permits.{LiesBelow, MayWrite, OwnsBy, Permits}
use Rattle.rbd_meaning.specs.Writes.{AreWritten, IsWritten, piece_written, state_raised}
use Rattle.rbd_parts.specs.Parts.{bytes_for}
use Rattle.rbd_interference.proofs.Done.{may_do}
use Rattle.rbd_interference.proofs.Headers.{owned_there}
use Rattle.rbd_site.specs.DataStep as step
use Rattle.rbd_site.specs.declared.done.DoneOp.TheVariants as done
use Rattle.rbd_stands.specs.Condition.{ArePartsBelow, IsPartBelow}
use Rattle.rbd_stands.specs.Effect.{effect_of, effect_of_op}
use Rattle.rbd_stands.specs.Writing.{piece_effect, piece_effects}
use Rattle.rbd_stands.proofs.EffectLemmas.{write_effect}
use Rattle.rbd_world.specs.Run.{log_of}
use Rattle.rbd_replies.specs.Places.{Placed, effects_of}
use Rattle.rbd_replies.proofs.Measured.{effects_append}
use Rattle.rbd_replies.proofs.PlacedRight.{ArePlacedRight, IsPlacedRight, right_back, right_front}
use Rattle.rbd_replies.proofs.Places.{step_at}
use Rattle.rbd_replies.proofs.PlacesTaken.{change_first, none_taken, silent_first}
use Rattle.rbd_replies.proofs.PlacesTold.{effect_there, records_at, unfenced_there}
use Rattle.rbd_replies.proofs.ReadShown.{divide}

module _ (homes : ℕ → SiteId) (home : SiteId) (image : ℕ) (own : HeaderView) (from : ℕ) (bytes : List ℕ) where
  abbrev op_of : Piece → Op
  op_of piece = data_write image (context_of own) piece (bytes_for piece.parts from bytes)

  piece_there : (p : Placed) (piece : Piece) → IsPlacedRight homes p → step_at p ≡ piece_written home image own from bytes piece
      → p.done.effect ≡ Some (piece_effect image from bytes piece)
  piece_there p piece right is =
      let most = length (log_of p.done.site p.before) in
      let owns : OwnsBy right.is.knows p.done.site image (MayWrite (maps_of right.is.knows.maps p.done.site image) right.is.knows.turn piece.object (context_of own) piece.parts (bytes_for piece.parts from bytes)) =
      subst (λ (s : Answered). Permits right.is.knows p.done.site s.op) is right.is.permits in
      let free = unfenced_there homes p right (piece_written home image own from bytes piece) is refl in
      let there = owned_there p.done.site (records_at p) p.done.instance right.is.knows image _ right.is.truth free owns in
      let v = there.view in
      let may : step.MayWriteParts piece.parts (bytes_for piece.parts from bytes) =
      may_do p.done.site (records_at p) p.done.instance right.is.knows most right.standing.form right.standing.mapped right.is.truth (op_of piece) owns free in
      let lie : ArePartsBelow v v.size piece.object piece.parts =
      subst (λ w. ArePartsBelow w w.size piece.object piece.parts) (sym there.still.same)
      (All-weaker (LiesBelow owns.header piece.object) (IsPartBelow (record owns.header { owner = v.owner; generation = v.generation; parent = v.parent }) owns.header.size piece.object) (λ q lies. record { part = lies.part; below = lies.below }) piece.parts owns.meets.within) in
      right.is.effect
      ∙ ap (λ (s : Answered). effect_of (records_at p) (done.Op s.op) s.answer) is
      ∙ ap (λ h. effect_of_op h (op_of piece) answer.Done) there.is
      ∙ write_effect v image piece.object (context_of own) false piece.parts (bytes_for piece.parts from bytes) (right.standing.form.form image v there.is).layout lie may

  -- behind its state
  written_there : (piece : Piece) (places : List Placed) → ArePlacedRight homes places → IsWritten home image own from bytes piece (map step_at places)
      → effects_of places ≡ piece_effect image from bytes piece ∷ []
  written_there piece [] right is = absurd (cc)
  written_there piece (q ∷ []) right is = absurd (cc)
  written_there piece (q ∷ p ∷ places) (raised, (here, right)) is =
      let none : map step_at places ≡ [] = cc in
      silent_first q (p ∷ places) (effect_there homes q raised (state_raised home image piece) cc)
      ∙ change_first p places (piece_effect image from bytes piece) (piece_there p piece here cc)
      ∙ ap (λ rest. piece_effect image from bytes piece ∷ effects_of rest) (none_taken places none)

  pub pieces_there : (pieces : List Piece) (places : List Placed) → ArePlacedRight homes places → (steps : List Answered) → map step_at places ≡ steps
      → AreWritten home image own from bytes pieces steps → effects_of places ≡ piece_effects image from bytes pieces
  pieces_there [] places right steps are none = ap effects_of (none_taken places (are ∙ none))
  pieces_there (piece ∷ pieces) places right steps are written =
      let both = divide written.first written.others places (are ∙ written.are) in
      let right_both : ArePlacedRight homes (both.front ++ both.back) = subst (ArePlacedRight homes) both.are right in
      let first = written_there piece both.front (right_front homes both.front both.back right_both) (both.front_is ∙ written.is_first) in
      let later = pieces_there pieces both.back (right_back homes both.front both.back right_both) written.others both.back_is written.are_others in
      ap effects_of both.are ∙ effects_append both.front both.back ∙ ap (λ front. front ++ effects_of both.back) first
      ∙ ap (λ rest. piece_effect image from bytes piece ∷ rest) later
