-- Pieces that are made one after another.
use Rattle.std.proofs.Common.{◌≡◌, ℕ, List, [], ◌∷◌, ◌++◌, refl, ap, ◌∙◌}
use Rattle.rbd_machine.specs.Plan.{Plan, Await}
use Rattle.rbd_machine.specs.Wait as wait
use Rattle.rbd_change.specs.Extent.{in_turn}

-- By what is left of a piece, and the number of its object.
module _ {P : Type 0} (rest : P → (next : Plan) → Plan) (number : P → ℕ) where
  -- one piece more at the end
  in_turn_more : (made : List P) (p : P) (next : Plan) → in_turn rest number (made ++ p ∷ []) next ≡ in_turn rest number made (Await (wait.Turn (number p)) (rest p next))
  in_turn_more [] p next = refl
  in_turn_more (q ∷ made) p next = ap (λ left. Await (wait.Turn (number q)) (rest q left)) (in_turn_more made p next)

  -- it does what is wanted at an object
  pub next_in_turn : (made : List P) (p : P) (object : ℕ) (does : Plan → Plan) (next : Plan) → ((left : Plan) → rest p left ≡ does left) → number p ≡ object
      → in_turn rest number (made ++ p ∷ []) next ≡ in_turn rest number made (Await (wait.Turn object) (does next))
  next_in_turn made p object does next is at =
      in_turn_more made p next
      ∙ ap (in_turn rest number made) (ap (λ n. Await (wait.Turn n) (rest p next)) at ∙ ap (Await (wait.Turn object)) (is next))
