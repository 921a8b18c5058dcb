-- Images without a parent. So it is with all images until there are clones.
use Rattle.std.specs.Prelude.{◌≡◌, List, [], ◌∷◌, None}
use Rattle.rbd_kinds.specs.declared.answer.Answer.{Answer}
use Rattle.rbd_kinds.specs.declared.answer.Answer.TheVariants as answer
use Rattle.rbd_machine.specs.Path.{Answered}

-- a header that is told has no parent
abbrev pub TellsNoParent : Answer → Type 0
TellsNoParent (answer.Header h) = h.parent ≡ None
TellsNoParent _ = Unit {0}

-- so it is with each answer
abbrev pub AreParentless : List Answered → Type 0
AreParentless [] = Unit {0}
AreParentless (step ∷ steps) = TellsNoParent step.answer × AreParentless steps
