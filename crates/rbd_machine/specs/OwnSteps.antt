-- How many operations a request has but for its looks above: those at the images that its own was
-- cloned from. How many of them there are, headers tell, each of which names the next image.
use Rattle.std.specs.Prelude.{◌⊎◌, ℕ, zero, suc, Bool, false, not, if◌then◌else◌, List, [], ◌∷◌, Some}
use Rattle.rbd_kinds.specs.declared.answer.Answer.{Answer}
use Rattle.rbd_kinds.specs.declared.data_op.DataOp.TheVariants as object
use Rattle.rbd_kinds.specs.declared.header_op.HeaderOp.TheVariants as header
use Rattle.rbd_kinds.specs.declared.id.SiteId.{SiteId}
use Rattle.rbd_kinds.specs.declared.operation.Op.{Op}
use Rattle.rbd_kinds.specs.declared.operation.Op.TheVariants as op
use Rattle.rbd_machine.specs.About.{IsLookAbove, IsOwnOp, owned_after}
use Rattle.rbd_machine.specs.Answers.{CanGive}
use Rattle.rbd_machine.specs.Knowledge.{ImagePlace, is_drawn}
use Rattle.rbd_machine.specs.Label.{Label, Piece}
use Rattle.rbd_machine.specs.Path.{Answered}
use Rattle.rbd_machine.specs.Plan.{Plan, Ask, Await, Note, Return, Goto}

-- whether an image is an own one
abbrev pub is_own : List ImagePlace → SiteId → (image : ℕ) → Bool
is_own = is_drawn

-- whether a request looks above: at the header of an image that isn't its own, or at a snapshot of
-- one
abbrev pub looks_above : List ImagePlace → SiteId → Op → Bool
looks_above images site (op.Header image header.Get) = not (is_own images site image)
looks_above images site (op.Data image number (object.Read (Some snap) parts)) = not (is_own images site image)
looks_above images site o = false

-- The steps but for looks above, of a request that has these images as its own before the first.
abbrev pub own_steps : List ImagePlace → List Answered → List Answered
own_steps images [] = []
own_steps images (step ∷ steps) = if looks_above images step.site step.op
    then own_steps (owned_after images step.site step.op step.answer) steps
    else step ∷ own_steps (owned_after images step.site step.op step.answer) steps

-- a look above, by the images that are its own
abbrev pub IsAbove : List ImagePlace → SiteId → Op → Type 0
IsAbove images site o = IsLookAbove o × (IsOwnOp images site o → ⊥)

-- The plan has at most n operations up to its end or to a label, whatever they are answered of what
-- they can give; looks above needn't be counted.
abbrev pub AsksOwnAtMost : List ImagePlace → Plan → (n : ℕ) → Type 0
AsksOwnAtMost images (Ask site why op next) zero = IsAbove images site op
    × ((answer : Answer) → CanGive op answer → AsksOwnAtMost (owned_after images site op answer) (next answer) zero)
AsksOwnAtMost images (Ask site why op next) (suc n) =
    ((answer : Answer) → CanGive op answer → AsksOwnAtMost (owned_after images site op answer) (next answer) n)
    ⊎ (IsAbove images site op
    × ((answer : Answer) → CanGive op answer → AsksOwnAtMost (owned_after images site op answer) (next answer) (suc n)))
AsksOwnAtMost images (Await wait next) n = AsksOwnAtMost images next n
AsksOwnAtMost images (Note site image event next) n = AsksOwnAtMost images next n
AsksOwnAtMost images (Return reply) n = Unit {0}
AsksOwnAtMost images (Goto label) n = Unit {0}

-- The images that are a request's own where it begins a part again: that of a piece, and none where
-- it finds its images anew.
abbrev pub owned_at : Label → List ImagePlace
owned_at (Piece site image h bits number) = record { site = site; image = image } ∷ []
owned_at _ = []
