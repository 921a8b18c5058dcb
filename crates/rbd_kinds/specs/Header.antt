use Rattle.std.specs.Prelude.{ℕ, nat_eq, List, [], ◌∷◌, Option, None, Some, if◌then◌else◌}
use Rattle.std.specs.Cmp.Lexicographic.{pointwise}
use Rattle.rbd_kinds.specs.declared.header.SnapView.{SnapView}

-- the first snapshot with a name
abbrev pub snap_named : List SnapView → List ℕ → Option SnapView
snap_named [] name = None
snap_named (s ∷ snaps) name = if pointwise nat_eq s.name name then Some s else snap_named snaps name
