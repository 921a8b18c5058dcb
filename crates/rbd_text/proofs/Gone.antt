-- One more entry of a history.
use Rattle.std.proofs.Common.{◌≡◌, ℕ, ◌+◌, ◌<◌, ◌||◌, Bool, List, length, take, get_or, None, ap, sym, ◌∙◌}
use Rattle.std.proofs.Math.Bool.{or_comm}
use Rattle.std.proofs.lemmas.List.Folds.{list_any_more}
use Rattle.std.specs.List.{list_any}
use Rattle.rbd_flat.specs.declared.entry.Entry.{Entry}
use Rattle.rbd_site.specs.declared.done.Done.{Done}
use Rattle.rbd_text.specs.Unanswered.{progress_of, starts, answers, tells_of_loss, found_in}
use Rattle.rbd_text.specs.Progress.{progress_after, progress_at, AreProgressesOf}
use Rattle.rbd_text.specs.declared.progress.Progresses.{Progresses}
use Rattle.rbd_text.proofs.Last.{last_more_or}

-- whether one more is so
any_more : {X : Type 0} (p : X → Bool) (xs : List X) (i : ℕ) (x : X) → i < length xs → list_any p (take (i + 1) xs) ≡ (p (get_or xs i x) || list_any p (take i xs))
any_more p xs i x within = list_any_more p xs i x within ∙ or_comm (list_any p (take i xs)) (p (get_or xs i x))

one_more : (a b : List Done) (history : List Entry) (i : ℕ) (e : Entry) (line : ℕ) → i < length history
    → progress_of a b (take (i + 1) history) line ≡ progress_after a b line (get_or history i e) (progress_of a b (take i history) line)
one_more a b history i e line within = λ t. record {
  started = any_more (starts line) history i e within t;
  answered = any_more (answers line) history i e within t;
  lost = any_more (tells_of_loss line) history i e within t;
  holder = last_more_or (found_in a b line) history i e None within t;
}

pub heard_more : (a b : List Done) (history : List Entry) (i : ℕ) (e : Entry) (old new : Progresses) → i < length history → e ≡ get_or history i e → AreProgressesOf a b (take i history) old
    → ((line : ℕ) → progress_at new line ≡ progress_after a b line e (progress_at old line)) → AreProgressesOf a b (take (i + 1) history) new
heard_more a b history i e old new within is before step = record {
  each = λ line.
      step line ∙ ap (progress_after a b line e) (before.each line) ∙ ap (λ x. progress_after a b line x (progress_of a b (take i history) line)) is ∙ sym (one_more a b history i e line within);
}
