-- Which images were cloned of which snapshot.
use Rattle.std.specs.Prelude.{◌≡◌, ℕ, ◌==◌, ◌&&◌, nat_lt, if◌then◌else◌, Bool, List, [], ◌∷◌, map, refl}
use Rattle.std.specs.List.{list_any, filter}
use Rattle.std.specs.List.Sorted.{IsStrictlyIncreasing}
use Rattle.std.specs.FinSet as finset
use Rattle.std.specs.Ordering.{nat_cmp, ordering_then}
use Rattle.std.specs.declared.cmp.Ordering.{Ordering}
use Rattle.std.specs.Coded.{Coded, code_by, coded×, coded_ℕ}

-- a child that was cloned of a parent's snapshot
pub record ChildEntry : Type 0 where
  pub parent : ℕ
  pub snap : ℕ
  pub child : ℕ

-- by parent, then by snapshot, then by child
abbrev pub entry_cmp : ChildEntry → ChildEntry → Ordering
entry_cmp a b = ordering_then (nat_cmp a.parent b.parent)
    (ordering_then (nat_cmp a.snap b.snap) (nat_cmp a.child b.child))

-- an entry of a child of this snapshot
abbrev pub is_child_of : (parent snap : ℕ) → ChildEntry → Bool
is_child_of parent snap e = (e.parent == parent) && (e.snap == snap)

-- a number in its place among others that ascend, and once
abbrev pub placed : ℕ → List ℕ → List ℕ
placed x [] = x ∷ []
placed x (y ∷ ys) = if nat_lt x y then x ∷ y ∷ ys else if x == y then y ∷ ys else y ∷ placed x ys

-- the numbers of a list, each once, ascending
abbrev pub ascending : List ℕ → List ℕ
ascending [] = []
ascending (x ∷ xs) = placed x (ascending xs)

-- the ids of a snapshot's children, each once, ascending
abbrev pub children_in : finset.FinSet entry_cmp → (parent snap : ℕ) → List ℕ
children_in entries parent snap =
    ascending (map (λ e. e.child) (filter (is_child_of parent snap) (finset.items entries)))

-- the ids are those of a snapshot's children, each once, ascending
pub record AreChildren (entries : finset.FinSet entry_cmp) (parent snap : ℕ) (ids : List ℕ) : Type 0 where
  pub each : (child : ℕ) → list_any (λ id. id == child) ids ≡ finset.contains entries
      (record { parent = parent; snap = snap; child = child })
  pub ascending : IsStrictlyIncreasing ids

-- an entry is told apart by its three ids
abbrev pub entry_code : Coded ChildEntry
entry_code =
    code_by (ℕ × (ℕ × ℕ)) (coded× coded_ℕ (coded× coded_ℕ coded_ℕ))
    (λ e. (e.parent, (e.snap, e.child))) (λ p. record { parent = p.0; snap = p.1.0; child = p.1.1 }) (λ _. refl)
