use Rattle.std.proofs.Common.{◌≡◌, ◌-◌, ◌++◌}
use Rattle.rbd_layout.specs.Pieces.{pieces_among, pieces_of}
use Rattle.rbd_layout.proofs.Listed.{numbers}
use Rattle.rbd_layout.proofs.extent.objects_within.Given as goal

-- the objects that are found, and those that are left to find
abbrev pub invariant-loop-object : goal.invariant-loop-object
invariant-loop-object l = l.touched.items ++ numbers (pieces_among l.layout l.extent l.object (l.end - l.object)) ≡ numbers (pieces_of l.layout l.extent)
