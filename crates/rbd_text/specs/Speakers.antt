-- What is kept of a script's commands.
use Rattle.std.specs.Prelude.{◌≡◌, ℕ, List}
use Rattle.rbd_line_table.specs.Known.{known_at}
use Rattle.rbd_script.specs.declared.script.Line.{Line}
use Rattle.rbd_text.specs.Text.{speaker_of}
use Rattle.rbd_text.specs.declared.speakers.Speakers.{Speakers}

-- the session of each command is kept
pub record AreSpeakersOf (lines : List Line) (speakers : Speakers) : Type 0 where
  pub each : (line : ℕ) → known_at speakers.lines line ≡ speaker_of lines line
