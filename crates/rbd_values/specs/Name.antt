use Rattle.std.specs.Prelude.{◌≢◌, ℕ, ◌<◌, ◌≤◌, Bool, ◌||◌, ◌&&◌, ◌==◌, nat_le, List, length, slice_index, IsTrue}
use Rattle.std.specs.List.{list_all}

-- `A` to `Z`, `a` to `z`, `0` to `9`, `.`, `_` and `-`
abbrev pub name_byte : ℕ → Bool
name_byte b = (nat_le 65 b && nat_le b 90) || (nat_le 97 b && nat_le b 122) || (nat_le 48 b && nat_le b 57) || (b == 46) || (b == 95) || (b == 45)

-- 1 to 64 of these, whatever the first
pub record IsName (text : List ℕ) : Type 0 where
  pub some : 0 < length text
  pub few : length text ≤ 64
  pub bytes : IsTrue (list_all name_byte text)

-- a name that a session may ask for: the first byte isn't `.` or `-`
pub record IsAskedName (text : List ℕ) : Type 0 where
  pub name : IsName text
  pub first_not_dot : slice_index text 0 ≢ 46
  pub first_not_dash : slice_index text 0 ≢ 45
