-- At each place of a line the steps before it are those of the places before it.
use Rattle.std.proofs.Common.{◌≡◌, ℕ, cond, Bool, true, false, List, [], ◌∷◌, ◌++◌, map, refl, sym, subst, append_assoc}
use Rattle.std.proofs.lemmas.List.{append-nil}
use Rattle.rbd_machine.specs.Path.{Answered}
use Rattle.rbd_world.specs.Run.{Happening, Nothing, Waited, Began, Did, Refused, Trimmed, Expired, Heard, Stopped, Restarted, is_own, steps_of}
use Rattle.rbd_replies.specs.Places.{Placed, placed_in, placed_of}
use Rattle.rbd_replies.proofs.Places.{step_at, steps_at_places}

-- behind these steps each place is the line's own, and the next
abbrev pub AreInLine : (line : ℕ) → (before : List Answered) → List Placed → Type 0
AreInLine line before [] = Unit {0}
AreInLine line before (p ∷ places) = (is_own line p.done.by ≡ true) × (steps_of line p.before ≡ before) × AreInLine line (before ++ step_at p ∷ []) places

one_more_step : (line : ℕ) (before : List Answered) (p : Placed) (places others : List Placed) → AreInLine line ((before ++ step_at p ∷ []) ++ map step_at places) others
    → AreInLine line (before ++ (step_at p ∷ map step_at places)) others
one_more_step line before p places others are = subst (λ steps. AreInLine line steps others) (append_assoc before (step_at p ∷ []) (map step_at places)) are

in_line_both : (line : ℕ) (before : List Answered) (some others : List Placed) → AreInLine line before some → AreInLine line (before ++ map step_at some) others → AreInLine line before (some ++ others)
in_line_both line before [] others one other = subst (λ steps. AreInLine line steps others) (append-nil before) other
in_line_both line before (p ∷ some) others one other = (
  one.0,
  one.1,
  in_line_both line (before ++ step_at p ∷ []) some others one.2
      (subst (λ steps. AreInLine line steps others) (sym (append_assoc before (step_at p ∷ []) (map step_at some))) other),
)

last_in_line : (line : ℕ) (h : Happening) (run : List Happening) → AreInLine line (steps_of line run) (placed_in line h run)
last_in_line line Nothing run = tt
last_in_line line Waited run = tt
last_in_line line (Began asked slot) run = tt
last_in_line line (Refused s other reply) run = tt
last_in_line line (Trimmed s number image object) run = tt
last_in_line line (Expired s number image who) run = tt
last_in_line line (Heard notice) run = tt
last_in_line line (Stopped who wanted lost) run = tt
last_in_line line (Restarted who) run = tt
last_in_line line (Did o reply) run = by (is_own line o.by) refl
  where
    by : (b : Bool) → is_own line o.by ≡ b → AreInLine line (steps_of line run) (cond b (record { before = run; done = o } ∷ []) [])
    by true mine = (mine, refl, tt)
    by false other = tt

pub places_in_line : (line : ℕ) (run : List Happening) → AreInLine line [] (placed_of line run)
places_in_line line [] = tt
places_in_line line (h ∷ run) =
    in_line_both line [] (placed_of line run) (placed_in line h run) (places_in_line line run)
    (subst (λ steps. AreInLine line steps (placed_in line h run)) (sym (steps_at_places line run)) (last_in_line line h run))

-- those behind others
pub in_line_behind : (line : ℕ) (before : List Answered) (some others : List Placed) → AreInLine line before (some ++ others) → AreInLine line (before ++ map step_at some) others
in_line_behind line before [] others are = subst (λ steps. AreInLine line steps others) (sym (append-nil before)) are
in_line_behind line before (p ∷ some) others are =
    subst (λ steps. AreInLine line steps others) (append_assoc before (step_at p ∷ []) (map step_at some)) (in_line_behind line (before ++ step_at p ∷ []) some others are.2)
