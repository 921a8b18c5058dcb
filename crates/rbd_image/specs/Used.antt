-- Which objects of some bits count as used.
use Rattle.std.specs.Prelude.{ℕ, ◌==◌, ◌&&◌, not, nat_lt, List, if◌then◌else◌}
use Rattle.rbd_kinds.specs.States.{state_at}

-- 1 where the object is one of the first and its state isn't 0, else 0
abbrev pub one_used : (count : ℕ) → (bits : List ℕ) → (object : ℕ) → ℕ
one_used count bits object = if nat_lt object count && not (state_at bits object == 0) then 1 else 0
