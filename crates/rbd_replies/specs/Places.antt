-- The operations of a line, each at its place in the run: those of its command itself, and not
-- those on its way to the lock of its image.
use Rattle.std.specs.Prelude.{◌≡◌, ℕ, if◌then◌else◌, List, [], ◌∷◌, ◌++◌, Option, Some, None}
use Rattle.rbd_flat.specs.Flat.{Flat}
use Rattle.rbd_flat.specs.declared.effect.Effect.{Effect}
use Rattle.rbd_kinds.specs.declared.answer.Answer.TheVariants as answer
use Rattle.rbd_kinds.specs.declared.header.HeaderView.{HeaderView}
use Rattle.rbd_kinds.specs.declared.header_op.HeaderOp.TheVariants as header
use Rattle.rbd_kinds.specs.declared.operation.Op.TheVariants as op
use Rattle.rbd_world.specs.Run.{Happening, Did, Operation, flat_after, is_own}

-- an operation, and what was done before it, the latest first
pub record Placed : Type 0 where
  pub before : List Happening
  pub done : Operation

abbrev pub placed_in : (line : ℕ) → Happening → (before : List Happening) → List Placed
placed_in line (Did o reply) before = if is_own line o.by then record { before = before; done = o } ∷ [] else []
placed_in line h before = []

-- the operations of a line, in their order
abbrev pub placed_of : (line : ℕ) → List Happening → List Placed
placed_of line [] = []
placed_of line (h ∷ run) = placed_of line run ++ placed_in line h run

-- the flat site at a place, by the effects of all that was done before
abbrev pub flat_at : Placed → Flat
flat_at p = flat_after p.done.site p.before

-- The operation there looks at the header of an image, and this is the header that it was told.
pub record LooksAt (image : ℕ) (h : HeaderView) (p : Placed) : Type 0 where
  pub asks : p.done.op ≡ op.Header image header.Get
  pub answered : p.done.answer ≡ answer.Header h

abbrev pub with_effect : Option Effect → List Effect → List Effect
with_effect None effects = effects
with_effect (Some e) effects = e ∷ effects

-- what these operations did to the flat site, in order
abbrev pub effects_of : List Placed → List Effect
effects_of [] = []
effects_of (p ∷ places) = with_effect p.done.effect (effects_of places)
