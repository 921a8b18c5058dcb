-- Images with neither a parent nor a journal: so are all until there are clones and journals.
use Rattle.std.specs.Prelude.{◌≡◌, false, List, [], ◌∷◌, None}
use Rattle.rbd_kinds.specs.declared.answer.Answer.{Answer}
use Rattle.rbd_kinds.specs.declared.answer.Answer.TheVariants as answer
use Rattle.rbd_kinds.specs.declared.header.HeaderView.{HeaderView}
use Rattle.rbd_kinds.specs.declared.machine.Fed.{Fed}
use Rattle.rbd_kinds.specs.declared.machine.Fed.TheVariants as fed
use Rattle.rbd_machine.specs.Path.{Answered}

pub record IsStandalone (h : HeaderView) : Type 0 where
  pub no_parent : h.parent ≡ None
  pub no_journal : h.journal ≡ false

-- a header that is told is that of such an image
abbrev pub TellsStandalone : Answer → Type 0
TellsStandalone (answer.Header h) = IsStandalone h
TellsStandalone _ = Unit {0}

abbrev pub IsFedStandalone : Fed → Type 0
IsFedStandalone (fed.Answer a) = TellsStandalone a
IsFedStandalone fed.Passed = Unit {0}

-- so is each header that some operations were answered
abbrev pub TellAllStandalone : List Answered → Type 0
TellAllStandalone [] = Unit {0}
TellAllStandalone (step ∷ steps) = TellsStandalone step.answer × TellAllStandalone steps
