-- What is kept of the commands while a history is gone over.
use Rattle.std.specs.Prelude.{◌≡◌, ℕ, ◌||◌, List, None}
use Rattle.std.specs.Option.{unwrap_or}
use Rattle.rbd_flat.specs.declared.entry.Entry.{Entry}
use Rattle.rbd_line_table.specs.Known.{is_known, known_at}
use Rattle.rbd_site.specs.declared.done.Done.{Done}
use Rattle.rbd_text.specs.Unanswered.{progress_of, starts, answers, tells_of_loss, found_in}
use Rattle.rbd_text.specs.declared.progress.CommandProgress.{CommandProgress}
use Rattle.rbd_text.specs.declared.progress.Progresses.{Progresses}

-- what is kept of the command of a line
abbrev pub progress_at : Progresses → (line : ℕ) → CommandProgress
progress_at all line = record {
  started = is_known all.started line;
  answered = is_known all.answered line;
  lost = is_known all.lost line;
  holder = unwrap_or (known_at all.holders line) None;
}

-- what one more entry tells of the command of a line
abbrev pub progress_after : (a b : List Done) → (line : ℕ) → Entry → CommandProgress → CommandProgress
progress_after a b line entry progress = record {
  started = starts line entry || progress.started;
  answered = answers line entry || progress.answered;
  lost = tells_of_loss line entry || progress.lost;
  holder = unwrap_or (found_in a b line entry) progress.holder;
}

-- all is kept that a history tells
pub record AreProgressesOf (a b : List Done) (history : List Entry) (all : Progresses) : Type 0 where
  pub each : (line : ℕ) → progress_at all line ≡ progress_of a b history line
