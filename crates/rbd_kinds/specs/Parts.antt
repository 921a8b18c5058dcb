use Rattle.std.specs.Prelude.{ℕ, ◌+◌, List, [], ◌∷◌}
use Rattle.rbd_kinds.specs.declared.layout.Part.{Part}

-- how many bytes the parts of an object have together
abbrev pub parts_len : List Part → ℕ
parts_len [] = 0
parts_len (p ∷ parts) = p.len + parts_len parts
