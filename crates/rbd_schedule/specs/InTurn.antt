-- The commands of a session that wait for each other, in their order.
use Rattle.std.specs.Prelude.{◌≡◌, ℕ, false, true, List, ◌∷◌, ◌++◌, AllPairs}
use Rattle.rbd_flat.specs.declared.entry.Entry.{Entry}
use Rattle.rbd_flat.specs.declared.entry.Entry.TheVariants as entry
use Rattle.rbd_kinds.specs.declared.id.Instance.{Instance}
use Rattle.rbd_schedule.specs.declared.given.Given.{Given}
use Rattle.rbd_schedule.specs.Starts.{is_ended}

-- Line b began after the end of line a: wherever the start of b stands in the history, before it
-- stands that a has its reply or is lost.
abbrev pub IsEndedBefore : (a b : ℕ) → List Entry → Type 0
IsEndedBefore a b history =
    (before after : List Entry) (who : Instance) → history ≡ before ++ entry.Start b who ∷ after
    → is_ended a before ≡ true

-- Of each two of these commands the later one began behind the end of the earlier one, unless it
-- stands beside the others.
abbrev pub AreInTurn : List Given → List Entry → Type 0
AreInTurn given history = AllPairs (λ (a b : Given). b.beside ≡ false → IsEndedBefore a.line b.line history) given
