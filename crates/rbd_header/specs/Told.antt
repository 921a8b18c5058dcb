-- The list of snapshots that views of a header share.
use Rattle.std.specs.Prelude.{◌≡◌, List, Option, IfSome}
use Rattle.rbd_kinds.specs.declared.header.SnapView.{SnapView}

-- where there is one, it is the header's own list
abbrev pub IsTold : (told : Option (List SnapView)) → (snaps : List SnapView) → Type 0
IsTold told snaps = IfSome told (λ list. list ≡ snaps)
