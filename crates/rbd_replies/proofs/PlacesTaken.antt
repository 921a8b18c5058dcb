-- Where the steps of places are known the places are taken from them one by one, and what the first
-- did comes before what the others did.
use Rattle.std.proofs.Common.{◌≡◌, List, [], ◌∷◌, Some, None, map, refl, ap}
use Rattle.rbd_flat.specs.declared.effect.Effect.{Effect}
use Rattle.rbd_machine.specs.Path.{Answered}
use Rattle.rbd_replies.specs.Places.{Placed, effects_of, with_effect}
use Rattle.rbd_replies.proofs.Places.{step_at}

-- places whose first step is this one
pub record BeginWith (step : Answered) (steps : List Answered) (places : List Placed) : Type 0 where
  pub place : Placed
  pub rest : List Placed
  pub are : places ≡ place ∷ rest
  pub is : step_at place ≡ step
  pub others : map step_at rest ≡ steps

pub begin_with : (step : Answered) (steps : List Answered) (places : List Placed) → map step_at places ≡ step ∷ steps → BeginWith step steps places
begin_with step steps [] are = absurd (cc)
begin_with step steps (p ∷ places) are = record { place = p; rest = places; are = refl; is = cc; others = cc }

pub none_taken : (places : List Placed) → map step_at places ≡ [] → places ≡ []
none_taken [] same = refl
none_taken (p ∷ places) same = absurd (cc)

-- ---- what they did

pub silent_first : (p : Placed) (places : List Placed) → p.done.effect ≡ None → effects_of (p ∷ places) ≡ effects_of places
silent_first p places none = ap (λ e. with_effect e (effects_of places)) none

pub change_first : (p : Placed) (places : List Placed) (e : Effect) → p.done.effect ≡ Some e → effects_of (p ∷ places) ≡ e ∷ effects_of places
change_first p places e some = ap (λ e. with_effect e (effects_of places)) some
