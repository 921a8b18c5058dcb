-- What held up to a place of a run: which images had no header yet, and what a walk taught.
use Rattle.std.specs.Prelude.{◌≡◌, ℕ, List, [], ◌∷◌, None}
use Rattle.rbd_kinds.specs.declared.id.SiteId.{SiteId}
use Rattle.rbd_kinds.specs.declared.machine.Fed.{Fed}
use Rattle.rbd_kinds.specs.declared.machine.Fed.TheVariants as fed
use Rattle.rbd_machine.specs.Knowledge.{Knowledge, learned, known_after_wait}
use Rattle.rbd_machine.specs.Label.{Label}
use Rattle.rbd_machine.specs.Plan.{Plan, Ask, Await, Note, past_label}
use Rattle.rbd_world.specs.Run.{Happening, records_after}

-- no header of the image was there so far
abbrev pub HadNoHeader : SiteId → (image : ℕ) → List Happening → Type 0
HadNoHeader s image [] = Unit {0}
HadNoHeader s image (h ∷ run) = ((records_after s (h ∷ run)).headers image ≡ None) × HadNoHeader s image run

-- what is known along a walk
abbrev pub known_along : (labels : Label → Plan) → Knowledge → Plan → List Fed → Knowledge
known_along labels k plan [] = k
known_along labels k (Ask site why o next) (fed.Answer a ∷ more) =
    known_along labels (learned k site o a) (past_label labels (next a)) more
known_along labels k (Await wait next) (fed.Passed ∷ more) = known_along labels (known_after_wait k wait)
    (past_label labels next) more
known_along labels k (Note site image event next) (fed.Passed ∷ more) =
    known_along labels k (past_label labels next) more
known_along labels k plan (f ∷ more) = k
