-- How many commands a script has, and how many replies its history.
use Rattle.std.specs.Prelude.{◌≡◌, ◌+◌, not, Bool, true, false, List, length, count_by}
use Rattle.rbd_flat.specs.declared.entry.Entry.{Entry}
use Rattle.rbd_flat.specs.declared.entry.Entry.TheVariants as entry
use Rattle.rbd_schedule.specs.Given.{commands_of}
use Rattle.rbd_schedule.specs.declared.given.Given.{Given}
use Rattle.rbd_script.specs.declared.script.Line.{Line}
use Rattle.rbd_plays.specs.OneChanger.{is_replied}

-- to whatever line
abbrev pub is_reply : Entry → Bool
is_reply (entry.Reply line reply) = true
is_reply e = false

-- The commands of the lines are as many as the replies and the commands without one, together.
abbrev pub AddUp : List Line → List Entry → Type 0
AddUp lines history =
    length (commands_of lines)
    ≡ count_by is_reply history + count_by (λ (c : Given). not (is_replied c.line history)) (commands_of lines)
