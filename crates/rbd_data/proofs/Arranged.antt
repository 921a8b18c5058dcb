-- Parts that are put to their places one after another.
use Rattle.std.proofs.Common.{◌≡◌, ℕ, ◌+◌, ◌-◌, ◌<◌, ◌≤◌, cond, List, ◌++◌, length, get_or, take, drop, max, arith}
use Rattle.std.proofs.lemmas.List.{places}
use Rattle.std.proofs.lemmas.List.FromFn.{fill_by_all}
use Rattle.rbd_kinds.specs.declared.layout.Extent.{Extent}
use Rattle.rbd_kinds.specs.declared.layout.Layout.{Layout}
use Rattle.rbd_layout.specs.Pieces.{IsPieces}
use Rattle.rbd_layout.specs.declared.types.Piece.{Piece}
use Rattle.rbd_layout.proofs.Within.{lies_in}
use Rattle.rbd_parts.specs.Parts.{AreBehind, EndBefore}
use Rattle.rbd_parts.specs.Contents.{overwritten, is_within}

pub put_between : (old new front back : List ℕ) (start count : ℕ) → count ≡ length new → front ≡ take start old → back ≡ drop count (drop start old) → start + count ≤ length old
    → front ++ (new ++ back) ≡ overwritten old start new
put_between old new front back start count long f b within =
    rw (f, b)
    (fill_by_all (λ i. cond (is_within start (length new) i) (get_or new (i - start) 0) (get_or old i 0)) _
    (max (length old) (start + length new)) 0
    (grind (arith, places)) (λ k h. grind (arith, places)))

-- the parts of each piece lie within the extent
pub pieces_lie : (l : Layout) (e : Extent) (pieces : List Piece) → IsPieces l e pieces → (i : ℕ) (d : Piece) → i < length pieces
    → AreBehind e.at (get_or pieces i d).parts × EndBefore e.at e.len (get_or pieces i d).parts
pieces_lie l e pieces are i d below =
    let p = get_or pieces i d in (
      λ k part h. (lies_in l e p.object p.parts (are.parts i d below) k part h).behind,
      λ k part h. (lies_in l e p.object p.parts (are.parts i d below) k part h).before,
    )
