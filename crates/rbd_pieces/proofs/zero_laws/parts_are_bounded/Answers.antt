use Rattle.std.proofs.Common.{◌≡◌, ◌+◌, suc, subst, arith}
use Rattle.rbd_machine.specs.Path.{IsBounded}
use Rattle.rbd_pieces.specs.Full.{full_piece}
use Rattle.rbd_pieces.specs.Size.{resize}
use Rattle.rbd_pieces.specs.Zero.{zero_piece}
use Rattle.rbd_pieces.proofs.ZerosBounded.{bounded_full, bounded_grow, bounded_shrink, bounded_zero}
use Rattle.rbd_pieces.proofs.zero_laws.parts_are_bounded.Goals as goal

pub returns-clause-zero : goal.returns-clause-zero
returns-clause-zero c = λ site image h piece next n b.
    let same : suc (suc (suc n)) ≡ n + 3 = omega arith in
    subst (IsBounded (zero_piece site image h piece next)) same (bounded_zero site image h piece next n b)

pub returns-clause-full : goal.returns-clause-full
returns-clause-full c = λ site image h piece bytes next n b.
    let same : suc (suc (suc n)) ≡ n + 3 = omega arith in
    subst (IsBounded (full_piece site image h piece bytes next)) same (bounded_full site image h piece bytes next n b)

pub returns-clause-grow : goal.returns-clause-grow
returns-clause-grow c = λ site image h to objects next n more b.
    let same : suc (suc n) ≡ n + 2 = omega arith in
    subst (IsBounded (resize site image h to objects next)) same (bounded_grow site image h to next n b objects more)

pub returns-clause-shrink : goal.returns-clause-shrink
returns-clause-shrink c = λ site image h to objects next n less b. bounded_shrink site image h to next n b objects less
