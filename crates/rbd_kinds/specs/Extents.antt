use Rattle.std.specs.Prelude.{ℕ, ◌+◌, ◌&&◌, nat_lt, nat_le, Bool}
use Rattle.rbd_kinds.specs.declared.layout.Extent.{Extent}

-- an extent that isn't empty and ends within a size
abbrev pub fits : Extent → (size : ℕ) → Bool
fits e size = nat_lt 0 e.len && nat_le (e.at + e.len) size
