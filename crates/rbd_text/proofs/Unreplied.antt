-- The lines of all commands without a reply.
use Rattle.std.proofs.Common.{◌≡◌, List, [], ◌∷◌, ◌++◌, refl, ap, ◌∙◌}
use Rattle.std.specs.List.{flat_map}
use Rattle.rbd_flat.specs.declared.entry.Entry.{Entry}
use Rattle.rbd_script.specs.declared.script.Declared.{Declared}
use Rattle.rbd_script.specs.declared.script.Line.{Line}
use Rattle.rbd_site.specs.declared.done.Done.{Done}
use Rattle.rbd_text.specs.Progress.{progress_at, AreProgressesOf}
use Rattle.rbd_text.specs.Unanswered.{said_line, unanswered_line}
use Rattle.rbd_text.specs.declared.progress.Progresses.{Progresses}

pub said_all : (sessions : List Declared) (a b : List Done) (history : List Entry) (all : Progresses) → AreProgressesOf a b history all → (lines : List Line)
    → flat_map (λ (line : Line). said_line sessions line.number line.said (progress_at all line.number)) lines ≡ flat_map (unanswered_line sessions a b history) lines
said_all sessions a b history all told [] = refl
said_all sessions a b history all told (l ∷ lines) =
    ap (λ p. said_line sessions l.number l.said p ++ flat_map (λ (line : Line). said_line sessions line.number line.said (progress_at all line.number)) lines) (told.each l.number)
    ∙ ap (λ t. unanswered_line sessions a b history l ++ t) (said_all sessions a b history all told lines)
