use Rattle.std.proofs.Common.{◌≡◌, ◌*◌}
use Rattle.rbd_image.proofs.RemovalsMade.{added_up_to}
use Rattle.rbd_image.proofs.outline.Outline.add_contents.Given as goal

-- the objects of the bytes before are added
abbrev pub invariant-loop-index : goal.invariant-loop-index
invariant-loop-index l = l.made.items ≡ added_up_to l.initial.made.items l.bits (4 * l.index)

-- and of this byte those before
abbrev pub invariant-loop-object : goal.invariant-loop-object
invariant-loop-object l = l.made.items ≡ added_up_to l.fn.made.items l.bits l.object
