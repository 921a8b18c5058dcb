-- Operations without effects: those of a command that changes no image do nothing to the flat site.
use Rattle.std.proofs.Common.{◌≡◌, ℕ, List, [], ◌∷◌, Option, None, map, refl, ◌∙◌}
use Rattle.rbd_kinds.specs.declared.header.HeaderView.{HeaderView}
use Rattle.rbd_kinds.specs.declared.id.SiteId.{SiteId}
use Rattle.rbd_machine.specs.Path.{Answered}
use Rattle.rbd_stands.specs.Effect.{effect_of_op, header_of}
use Rattle.rbd_replies.proofs.PlacedRight.{ArePlacedRight}
use Rattle.rbd_replies.proofs.Places.{step_at}
use Rattle.rbd_replies.proofs.PlacesTaken.{silent_first}
use Rattle.rbd_replies.proofs.PlacesTold.{effect_there, records_at}
use Rattle.rbd_replies.specs.Places.{Placed, effects_of}

-- it has none, whatever header is there
abbrev pub IsSilent : Answered → Type 0
IsSilent step = (known : Option HeaderView) → effect_of_op known step.op step.answer ≡ None

abbrev pub AreSilent : List Answered → Type 0
AreSilent [] = Unit {0}
AreSilent (step ∷ steps) = IsSilent step × AreSilent steps

pub silent_places : (homes : ℕ → SiteId) (places : List Placed) → ArePlacedRight homes places → AreSilent (map step_at places) → effects_of places ≡ []
silent_places homes [] right silent = refl
silent_places homes (p ∷ places) (here, right) (first, silent) =
    silent_first p places (effect_there homes p here (step_at p) refl ∙ first (header_of (records_at p) p.done.op)) ∙ silent_places homes places right silent
