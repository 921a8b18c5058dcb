use Rattle.std.proofs.Common.{◌≡◌, ◌+◌, suc, arith, subst}
use Rattle.rbd_machine.specs.Path.{IsBounded}
use Rattle.rbd_pieces.specs.Write.{write_piece}
use Rattle.rbd_pieces.proofs.Bounded.{bounded_write}
use Rattle.rbd_pieces.proofs.laws.pieces_raise_and_write.Goals as goal

pub returns : goal.returns
returns c = λ site image h piece bytes next n b.
    let same : suc (suc n) ≡ n + 2 = omega arith in
    subst (IsBounded (write_piece site image h piece bytes next)) same (bounded_write site image h piece bytes next n b)
