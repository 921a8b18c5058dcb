-- How many operations a line's command has itself: no more than its row allows. Those on its way to
-- the lock of its image are apart: it may ask for the lock as often as another one has it.
use Rattle.std.specs.Prelude.{◌≡◌, ◌<◌, ◌≤◌, true, ℕ, ◌+◌, List, [], ◌∷◌, ◌++◌, length, Option}
use Rattle.rbd_commands.specs.declared.command.Command.{Command}
use Rattle.rbd_commands.specs.declared.command.Command.TheVariants as command
use Rattle.rbd_kinds.specs.declared.id.SiteId.{SiteId}
use Rattle.rbd_kinds.specs.declared.layout.Extent.{Extent}
use Rattle.rbd_machine.specs.Passes.{steps_of_passes}
use Rattle.rbd_machine.specs.Path.{Answered}
use Rattle.rbd_meaning.specs.Reads.{SeeOthers}
use Rattle.rbd_catalog.specs.Profile.{between, more_by, most_operations, profile}
use Rattle.rbd_world.specs.Run.{Happening, Did, Refused, is_for}

-- the number of a command's operations is bounded by the number of objects that its extent touches
abbrev pub HaveAtMost : (most : ℕ) → List (List Answered) → Type 0
HaveAtMost most [] = Unit {0}
HaveAtMost most (pass ∷ passes) = (length pass ≤ most) × HaveAtMost most passes

-- The operations of a read: those of its passes, and of the one that it is in, or ended in. Each
-- has so many at most; and it began again only where its closing look was told a header of another
-- generation, or none.
pub record KeepsPasses (site : SiteId) (name : List ℕ) (snap : Option (List ℕ)) (e : Extent) (most : ℕ)
    (steps : List Answered) : Type 0 where
  pub passes : List (List Answered)
  pub pass : List Answered
  pub are : steps ≡ steps_of_passes passes ++ pass
  pub before : SeeOthers site name snap e passes
  pub each : HaveAtMost most passes
  pub last : length pass ≤ most

-- How many operations the row of a command allows it: by the number of pieces that its extent has
-- at most, and by what it was told.
abbrev pub allowed : Command → (pieces : ℕ) → List Answered → ℕ
allowed c pieces steps = most_operations (profile c) pieces + more_by (profile c).told steps

-- A read has so many at most in each of its passes, any other command in all.
abbrev pub DoesAtMost : (home : SiteId) → Command → (most : ℕ) → List Answered → Type 0
DoesAtMost home (command.Read image snap at len) most steps = KeepsPasses home image snap (between at len) most steps
DoesAtMost home c most steps = length steps ≤ most

abbrev pub KeepsBound : (home : SiteId) → Command → (pieces : ℕ) → List Answered → Type 0
KeepsBound home c pieces steps = DoesAtMost home c (allowed c pieces steps) steps

-- ---- of a line that hasn't ended

-- A read that hasn't ended: in the pass that it is in it has had fewer operations than so many.
pub record IsInPass (site : SiteId) (name : List ℕ) (snap : Option (List ℕ)) (e : Extent) (most : ℕ)
    (steps : List Answered) : Type 0 where
  pub passes : List (List Answered)
  pub pass : List Answered
  pub are : steps ≡ steps_of_passes passes ++ pass
  pub before : SeeOthers site name snap e passes
  pub each : HaveAtMost most passes
  pub fewer : length pass < most

-- A read has had fewer in the pass that it is in, any other command in all.
abbrev pub DoesFewer : (home : SiteId) → Command → (most : ℕ) → List Answered → Type 0
DoesFewer home (command.Read image snap at len) most steps = IsInPass home image snap (between at len) most steps
DoesFewer home c most steps = length steps < most

-- So at least one more is due, and who has had as many as its row allows has ended.
abbrev pub StaysBelow : (home : SiteId) → Command → (pieces : ℕ) → List Answered → Type 0
StaysBelow home c pieces steps = DoesFewer home c (allowed c pieces steps) steps

-- An operation of the line was done, by its command itself or on its way to the lock of its image;
-- or it was refused before any.
abbrev pub IsStepFor : (line : ℕ) → Happening → Type 0
IsStepFor line (Did o reply) = is_for line o.by ≡ true
IsStepFor line (Refused s other reply) = other ≡ line
IsStepFor line h = ⊥
