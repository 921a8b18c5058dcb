use Rattle.std.proofs.Common.{◌≡◌, ℕ, ◌||◌, take}
use Rattle.rbd_schedule.specs.Playing.{has_line}
use Rattle.rbd_schedule.specs.Starts.{is_ended}
use Rattle.rbd_schedule.proofs.runner.note_ends.Given as goal

-- the lines that have ended by the entries so far are noted
abbrev pub invariant-loop-entry : goal.invariant-loop-entry
invariant-loop-entry l = (line : ℕ) → has_line line l.over ≡ (has_line line l.fn.over || is_ended line (take l.entry-index l.fn.entries))
