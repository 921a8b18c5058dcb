-- What a write's pieces are made by.
use Rattle.std.proofs.Common.{◌≡◌, ℕ, ◌+◌, ◌≤◌, ◌<◌, suc, length, get_or, All, true, false, Bool, List, ◌∷◌, Some, None, refl, arith}
use Rattle.std.proofs.lemmas.Bool.Decides.{nat_tests}
use Rattle.rbd_kinds.specs.declared.layout.Extent.{Extent}
use Rattle.rbd_kinds.specs.declared.layout.Layout.{Layout}
use Rattle.rbd_layout.specs.Pieces.{IsPieces}
use Rattle.rbd_layout.specs.declared.types.Piece.{Piece}
use Rattle.rbd_layout.proofs.Within.{lies_in}
use Rattle.rbd_parts.specs.Parts.{AreBehind}
use Rattle.rbd_commands.specs.declared.refusal.Refusal.TheVariants as refusal
use Rattle.rbd_kinds.specs.Extents.{fits}
use Rattle.rbd_meaning.specs.Range.{out_of_range}

-- ---- extents

pub within_size : (e : Extent) (size : ℕ) → out_of_range e size ≡ None → e.at + e.len ≤ size
within_size e size none = go (fits e size) refl
  where
    go : (b : Bool) → fits e size ≡ b → e.at + e.len ≤ size
    go true is = grind (arith, nat_tests)
    go false is = let some : out_of_range e size ≡ Some refusal.BadRange = rw is refl in cc

-- ---- pieces that are made

pub pieces_behind : (l : Layout) (e : Extent) (pieces : List Piece) → IsPieces l e pieces → All (λ (p : Piece). AreBehind e.at p.parts) pieces
pieces_behind l e pieces are = λ k d below k' d' below'. (lies_in l e (get_or pieces k d).object (get_or pieces k d).parts (are.parts k d below) k' d' below').behind

pub behind_first : (at : ℕ) (p : Piece) (pieces : List Piece) → All (λ (q : Piece). AreBehind at q.parts) (p ∷ pieces) → AreBehind at p.parts
behind_first at p pieces behind = behind 0 p (let some : 0 < length pieces + 1 = omega arith in omega arith)

pub behind_rest : (at : ℕ) (p : Piece) (pieces : List Piece) → All (λ (q : Piece). AreBehind at q.parts) (p ∷ pieces) → All (λ (q : Piece). AreBehind at q.parts) pieces
behind_rest at p pieces behind = λ k d below. behind (suc k) d (omega arith)
