-- Snapshots that are listed under a name.
use Rattle.std.proofs.Common.{◌≡◌, ℕ, suc, ◌<◌, true, false, Bool, cond, List, [], ◌∷◌, length, Some, arith}
use Rattle.std.specs.Prelude.{nat_eq, Contains}
use Rattle.std.specs.Cmp.Lexicographic.{pointwise}
use Rattle.rbd_kinds.specs.declared.header.SnapView.{SnapView}
use Rattle.rbd_kinds.specs.Header.{snap_named}

-- a snapshot of a name is one of those that are listed
pub named_is_listed : (snaps : List SnapView) (name : List ℕ) (s : SnapView) → snap_named snaps name ≡ Some s → Contains snaps s
named_is_listed [] name s is = cc
named_is_listed (x ∷ snaps) name s is = go (pointwise nat_eq x.name name) is (named_is_listed snaps name s)
  where
    go : (b : Bool) → cond b (Some x) (snap_named snaps name) ≡ Some s → (snap_named snaps name ≡ Some s → Contains snaps s) → Contains (x ∷ snaps) s
    go true same later = (0, (let less : 0 < suc (length snaps) = omega arith in less), (let e : x ≡ s = cc in e))
    go false there later = let l = later there in let less = l.1 in (suc l.0, (let more : suc l.0 < suc (length snaps) = omega (arith, less) in more), l.2)
