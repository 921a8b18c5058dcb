use Rattle.std.proofs.Common.{◌≡◌}
use Rattle.rbd_machine.specs.Plan.{Plan}
use Rattle.rbd_pieces.specs.Shrink.{pieces_from}
use Rattle.rbd_pieces.specs.Size.{rest_of_zeros, zero_pieces}
use Rattle.rbd_pieces.proofs.Sizes.{left}
use Rattle.rbd_pieces.proofs.shrink.zeros.Given as goal

-- the zeros that are made, and those that are left to make
abbrev pub invariant-loop-object : goal.invariant-loop-object
invariant-loop-object l = (next : Plan) →
    rest_of_zeros l.made.items (zero_pieces l.target.site l.target.image l.header (left l.target.site l.target.image l.header l.bits l.extent l.object l.end) next)
    ≡ zero_pieces l.target.site l.target.image l.header (pieces_from l.header l.to l.bits) next
