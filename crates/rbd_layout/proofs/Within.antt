-- The parts of an extent lie within it.
use Rattle.std.proofs.Common.{◌≡◌, ℕ, ◌+◌, ◌-◌, ◌<◌, ◌≤◌, List, length, get_or, arith}
use Rattle.std.proofs.lemmas.List.{get_or_default}
use Rattle.rbd_kinds.specs.declared.layout.Extent.{Extent}
use Rattle.rbd_kinds.specs.declared.layout.Layout.{Layout}
use Rattle.rbd_kinds.specs.declared.layout.Part.{Part}
use Rattle.rbd_layout.specs.Pieces.{IsPartsOf}
use Rattle.rbd_layout.proofs.Derived.{parts_cover}

pub record LiesIn (e : Extent) (p : Part) : Type 0 where
  pub behind : e.at ≤ p.at
  pub before : p.at + p.len ≤ e.at + e.len

-- an element at another default
same_element : {X : Type 0} (xs : List X) (k : ℕ) (d : X) → k < length xs → get_or xs k (get_or xs k d) ≡ get_or xs k d
same_element xs k d below = get_or_default xs k (get_or xs k d) d below

pub lies_in : (l : Layout) (e : Extent) (object : ℕ) (parts : List Part) → IsPartsOf l e object parts → (k : ℕ) (d : Part) → k < length parts → LiesIn e (get_or parts k d)
lies_in l e object parts are k d below =
    let p = get_or parts k d in
    let is = same_element parts k d below in
    let some : 0 < p.len = (are.each k d below).some in
    let first = ((parts_cover l e object parts are p.at).0 (k, p, below, is, (let a : p.at ≤ p.at = omega arith in a, let b : p.at < p.at + p.len = omega arith in b))).0 in
    let last = ((parts_cover l e object parts are (p.at + (p.len - 1))).0 (k, p, below, is, (let a : p.at ≤ p.at + (p.len - 1) = omega arith in a, let b : p.at + (p.len - 1) < p.at + p.len = omega arith in b))).0 in
    record { behind = first.0; before = (let h : p.at + (p.len - 1) < e.at + e.len = last.1 in omega arith) }
