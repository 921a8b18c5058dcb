-- The operations of a line are its steps, each at its place.
use Rattle.std.proofs.Common.{◌≡◌, ℕ, cond, Bool, true, false, List, [], ◌∷◌, ◌++◌, map, refl, ap, ◌∙◌}
use Rattle.rbd_machine.specs.Path.{Answered}
use Rattle.rbd_world.specs.Run.{Happening, Nothing, Waited, Began, Did, Refused, Trimmed, Expired, Heard, Stopped, Restarted, is_own, step_of, steps_in, steps_of}
use Rattle.rbd_replies.specs.Places.{Placed, placed_in, placed_of}

abbrev pub step_at : Placed → Answered
step_at p = step_of p.done

map_append : (xs ys : List Placed) → map step_at (xs ++ ys) ≡ map step_at xs ++ map step_at ys
map_append [] ys = refl
map_append (x ∷ xs) ys = ap (λ rest. step_at x ∷ rest) (map_append xs ys)

steps_in_one : (line : ℕ) (h : Happening) (run : List Happening) → map step_at (placed_in line h run) ≡ steps_in line h
steps_in_one line Nothing run = refl
steps_in_one line Waited run = refl
steps_in_one line (Began asked slot) run = refl
steps_in_one line (Did o reply) run = go (is_own line o.by)
  where
    go : (b : Bool) → map step_at (cond b (record { before = run; done = o } ∷ []) []) ≡ cond b (step_of o ∷ []) []
    go true = refl
    go false = refl
steps_in_one line (Refused s other reply) run = refl
steps_in_one line (Trimmed s number image object) run = refl
steps_in_one line (Expired s number image who) run = refl
steps_in_one line (Heard notice) run = refl
steps_in_one line (Stopped who wanted lost) run = refl
steps_in_one line (Restarted who) run = refl

pub steps_at_places : (line : ℕ) (run : List Happening) → map step_at (placed_of line run) ≡ steps_of line run
steps_at_places line [] = refl
steps_at_places line (h ∷ run) =
    map_append (placed_of line run) (placed_in line h run)
    ∙ ap (λ front. front ++ map step_at (placed_in line h run)) (steps_at_places line run)
    ∙ ap (λ back. steps_of line run ++ back) (steps_in_one line h run)
