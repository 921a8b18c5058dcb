-- What holds of each header that was told.
use Rattle.std.specs.Prelude.{ℕ, ◌≤◌, List, [], ◌∷◌, length}
use Rattle.rbd_kinds.specs.declared.answer.Answer.{Answer}
use Rattle.rbd_kinds.specs.declared.answer.Answer.TheVariants as answer
use Rattle.rbd_kinds.specs.declared.header.HeaderView.{HeaderView}
use Rattle.rbd_layout.specs.Pieces.{pieces_of}
use Rattle.rbd_machine.specs.Path.{Answered}
use Rattle.rbd_pieces.specs.Shrink.{head_from}

abbrev pub HoldsIfTold : (HeaderView → Type 0) → Answer → Type 0
HoldsIfTold holds (answer.Header h) = holds h
HoldsIfTold holds _ = Unit {0}

abbrev pub HoldsOfTold : (HeaderView → Type 0) → List Answered → Type 0
HoldsOfTold holds [] = Unit {0}
HoldsOfTold holds (step ∷ steps) = HoldsIfTold holds step.answer × HoldsOfTold holds steps

-- The bytes from a size on lie in at most so many objects.
abbrev pub HasFewToCut : (to most : ℕ) → HeaderView → Type 0
HasFewToCut to most h = length (pieces_of h.layout (head_from h to)) ≤ most
