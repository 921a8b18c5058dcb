-- What the bytes of an object become, byte by byte. Past the end of a list `slice_index` is zero.
use Rattle.std.specs.Prelude.{ℕ, ◌+◌, ◌-◌, Bool, ◌&&◌, nat_le, nat_lt, max, if◌then◌else◌, List, map, length, slice_index}
use Rattle.std.specs.List.{range_with_len}

-- whether place i is one of the `count` places from `start` on
abbrev pub is_within : (start count i : ℕ) → Bool
is_within start count i = nat_le start i && nat_lt i (start + count)

-- `count` bytes from `start` on
abbrev pub window : (bytes : List ℕ) (start count : ℕ) → List ℕ
window bytes start count = map (λ i. slice_index bytes (start + i)) (range_with_len 0 count)

-- old bytes with new ones written over them from `start` on
abbrev pub overwritten : (old : List ℕ) (start : ℕ) (new : List ℕ) → List ℕ
overwritten old start new =
    map (λ i. if is_within start (length new) i then slice_index new (i - start) else slice_index old i)
    (range_with_len 0 (max (length old) (start + length new)))

-- old bytes with zeros at `count` places from `start` on, and no longer than they were
abbrev pub zeroed : (old : List ℕ) (start count : ℕ) → List ℕ
zeroed old start count =
    map (λ i. if is_within start count i then 0 else slice_index old i) (range_with_len 0 (length old))
