-- What lines owe to object maps, and runs in which nobody is stopped or fenced.
use Rattle.std.specs.Prelude.{◌≡◌, ℕ, ◌==◌, ◌&&◌, ◌||◌, Bool, true, false, List, [], ◌∷◌, Option, Some, None, is_some}
use Rattle.rbd_interference.specs.Owed.{Spot, owed_behind}
use Rattle.rbd_kinds.specs.declared.id.SiteId.{SiteId}
use Rattle.rbd_machine.specs.About.{image_of}
use Rattle.rbd_machine.specs.Knowledge.{same_site}
use Rattle.rbd_world.specs.Run.{Happening, Did, Stopped, Operation, fence_of, is_own, steps_of}

-- ---- debts

-- what a line owes: what its own operations left
abbrev pub owed_in : List Happening → (line : ℕ) → Option Spot
owed_in run line = owed_behind (steps_of line run)

-- ---- runs without hindrance

-- whether somebody is stopped, or put into a site's blocklist
abbrev pub is_hindrance : Happening → Bool
is_hindrance (Did o reply) = is_some (fence_of o.op o.answer)
is_hindrance (Stopped who wanted lost) = true
is_hindrance h = false

abbrev pub HasNoHindrance : List Happening → Type 0
HasNoHindrance [] = Unit {0}
HasNoHindrance (h ∷ run) = (is_hindrance h ≡ false) × HasNoHindrance run

-- ---- lines that worked on an image

-- whether the operation is one of the line's own, on the image
abbrev pub is_of : SiteId → (image : ℕ) → Operation → Bool
is_of s image o = same_site o.site s && is_image image (image_of o.op)
  where
    is_image : ℕ → Option ℕ → Bool
    is_image image None = false
    is_image image (Some i) = i == image

abbrev pub works_in : (line : ℕ) → SiteId → (image : ℕ) → Happening → Bool
works_in line s image (Did o reply) = is_own line o.by && is_of s image o
works_in line s image h = false

abbrev pub has_worked : (line : ℕ) → SiteId → (image : ℕ) → List Happening → Bool
has_worked line s image [] = false
has_worked line s image (h ∷ run) = works_in line s image h || has_worked line s image run
