-- One more line of a script.
use Rattle.std.proofs.Common.{◌≡◌, ℕ, ◌+◌, ◌<◌, List, length, take, get_or, ap, sym, ◌∙◌}
use Rattle.std.specs.Option.{option_or}
use Rattle.rbd_line_table.specs.Known.{known_at}
use Rattle.rbd_script.specs.declared.script.Line.{Line}
use Rattle.rbd_text.specs.Speakers.{AreSpeakersOf}
use Rattle.rbd_text.specs.Text.{speaks, speaker_of}
use Rattle.rbd_text.specs.declared.speakers.Speakers.{Speakers}
use Rattle.rbd_text.proofs.Last.{last_more}

pub spoken_more : (lines : List Line) (i : ℕ) (l : Line) (old new : Speakers) → i < length lines → l ≡ get_or lines i l → AreSpeakersOf (take i lines) old
    → ((line : ℕ) → known_at new.lines line ≡ option_or (speaks line l) (known_at old.lines line)) → AreSpeakersOf (take (i + 1) lines) new
spoken_more lines i l old new within is before step = record {
  each = λ line.
      step line ∙ ap (option_or (speaks line l)) (before.each line) ∙ ap (λ x. option_or (speaks line x) (speaker_of (take i lines) line)) is ∙ sym (last_more (speaks line) lines i l within);
}
