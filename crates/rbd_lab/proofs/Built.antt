-- A script without a form that isn't built is one that can be played.
use Rattle.std.proofs.Common.{◌≡◌, ◌≤◌, cond, Bool, true, false, List, [], ◌∷◌, All, length, Some, None, refl, sym}
use Rattle.std.proofs.lemmas.List.Elements.{All-cons, All-nil}
use Rattle.std.proofs.lemmas.Option.{none-some}
use Rattle.rbd_schedule.specs.InOrder.{AreDeclared}
use Rattle.rbd_schedule.specs.Playing.{IsPlayable, IsPlayedLine}
use Rattle.rbd_script.specs.declared.script.Line.{Line}
use Rattle.rbd_script.specs.declared.script.Said.{Said}
use Rattle.rbd_script.specs.declared.script.Said.TheVariants as said
use Rattle.rbd_script.specs.declared.script.Script.{Script}
use Rattle.rbd_lab.specs.Script.{first_unbuilt, is_said, unbuilt_line}

said_played : (s : Said) → is_said s ≡ true → IsPlayedLine s
said_played (said.Command session beside c) is = is
said_played _ is = tt

all_played : (lines : List Line) → unbuilt_line lines ≡ None → All (λ (line : Line). IsPlayedLine line.said) lines
all_played [] is = All-nil (λ (l : Line). IsPlayedLine l.said)
all_played (line ∷ lines) is = by (is_said line.said) refl is (all_played lines)
  where
    by : (b : Bool) → is_said line.said ≡ b → cond b (unbuilt_line lines) (Some line.number) ≡ None → (unbuilt_line lines ≡ None → All (λ (line : Line). IsPlayedLine line.said) lines)
        → All (λ (line : Line). IsPlayedLine line.said) (line ∷ lines)
    by true e is rest = All-cons (λ (l : Line). IsPlayedLine l.said) line lines (said_played line.said e) (rest is)
    by false e is rest = absurd (none-some line.number (sym is))

pub playable : (script : Script) → length script.sessions ≤ 32 → AreDeclared (length script.sessions) script.lines → first_unbuilt script ≡ None → IsPlayable script
playable script few declared is = record { few = few; declared = declared; lines = all_played script.lines is }
