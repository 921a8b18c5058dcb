-- A piece that was read has one place.
use Rattle.std.proofs.Common.{◌≡◌, ℕ, List, [], ◌∷◌, map, Option, Some, sym, ap, ◌∙◌}
use Rattle.rbd_layout.specs.declared.types.Piece.{Piece}
use Rattle.rbd_machine.specs.Objects.{data_read}
use Rattle.rbd_machine.specs.Path.{Answered}
use Rattle.rbd_meaning.specs.Reads.{bytes_shown}
use Rattle.rbd_replies.specs.Places.{Placed}
use Rattle.rbd_replies.specs.Reads.{IsPieceAt}
use Rattle.rbd_replies.proofs.Places.{step_at}
use Rattle.rbd_replies.proofs.PlacesTaken.{none_taken}

pub one_place : (image : ℕ) (snap : Option ℕ) (piece : Piece) (bytes : List ℕ) (places : List Placed) (read : IsPieceAt image snap piece bytes places)
    → (places ≡ read.own ∷ []) × (read.own.done.op ≡ data_read image snap piece) × (bytes_shown piece.parts read.own.done.answer ≡ Some bytes)
one_place image snap piece bytes places read =
    let as_read : Answered = record { site = read.own.done.site; op = data_read image snap piece; answer = read.shown.answer } in
    let all : step_at read.own ∷ map step_at read.above ≡ as_read ∷ [] = sym (ap (map step_at) read.are) ∙ read.shown.are in
    let step : step_at read.own ≡ as_read = cc in
    let none : map step_at read.above ≡ [] = cc in (
      read.are ∙ ap (λ above. read.own ∷ above) (none_taken read.above none),
      ap (λ (s : Answered). s.op) step,
      ap (λ (s : Answered). bytes_shown piece.parts s.answer) step ∙ read.shown.shown ∙ ap Some (sym read.shows),
    )
