-- How many numbers there are up to the greatest that a function gives.
use Rattle.std.proofs.Common.{◌≡◌, ℕ, ◌+◌, ◌<◌, ◌≤◌, ◌⊎◌, suc, zero, max, refl, ap, inl, inr, arith}
use Rattle.std.proofs.Math.Nat.{eq-or-lt_of_le}
use Rattle.rbd_kinds.specs.Striping.{IsObjectCount, object_of}
use Rattle.rbd_kinds.specs.declared.layout.Layout.{Layout}
use Rattle.rbd_text.specs.Replies.{count_below, objects_below}

within : (f : ℕ → ℕ) (n most : ℕ) → ((k : ℕ) → k < n → f k < most) → count_below f n ≤ most
unfolding count_below
within f zero most h = omega arith
within f (suc n) most h =
    let before = within f n most (λ k below. h k (omega arith)) in
    let last = h n (omega arith) in
    omega arith

reached : (f : ℕ → ℕ) (n k : ℕ) → k < n → f k < count_below f n
unfolding count_below
reached f zero k below = absurd (omega arith)
reached f (suc n) k below = at_or_before (reached f n k) (eq-or-lt_of_le (omega arith))
  where
    at_or_before : (k < n → f k < count_below f n) → (k ≡ n) ⊎ (k < n) → f k < max (count_below f n) (f n + 1)
    at_or_before before (inr less) = let there = before less in omega arith
    at_or_before before (inl same) = let there : f k ≡ f n = ap f same in omega arith

by_greatest : (f : ℕ → ℕ) (n most : ℕ) → ((k : ℕ) → k < n → f k < most) → (k : ℕ) × (k < n) × (f k + 1 ≡ most) → most ≡ count_below f n
by_greatest f n most each (k, below, last) = let there = reached f n k below in let all = within f n most each in omega arith

is_count : (f : ℕ → ℕ) (n most : ℕ) → (n ≡ 0 → most ≡ 0) → ((k : ℕ) → k < n → f k < most) → (0 < n → (k : ℕ) × (k < n) × (f k + 1 ≡ most)) → most ≡ count_below f n
unfolding count_below
is_count f zero most none each greatest = none refl
is_count f (suc n) most none each greatest = by_greatest f (suc n) most each (greatest (omega arith))

pub counted : (layout : Layout) (size count : ℕ) → IsObjectCount layout size count → count ≡ objects_below layout size
counted layout size count h = is_count (object_of layout) size count h.none h.each h.greatest
