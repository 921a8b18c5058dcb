use Rattle.std.specs.Prelude.{ℕ, ◌≤◌, List, length}

-- the bytes of one write or message
pub record IsPayload (bytes : List ℕ) : Type 0 where
  pub some : 1 ≤ length bytes
  pub few : length bytes ≤ 65536
