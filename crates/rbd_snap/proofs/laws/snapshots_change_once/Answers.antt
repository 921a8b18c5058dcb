use Rattle.std.proofs.Common.{◌≡◌, ◌+◌, suc, subst, arith}
use Rattle.rbd_machine.specs.Path.{IsBounded}
use Rattle.rbd_snap.specs.Snap.{copying, removing}
use Rattle.rbd_snap.proofs.Bounds.{bounded_copying, bounded_removal, bounded_removing, bounded_snap}
use Rattle.rbd_snap.proofs.laws.snapshots_change_once.Goals as goal

pub returns-clause-either : goal.returns-clause-either
returns-clause-either c = bounded_snap

pub returns-clause-removal : goal.returns-clause-removal
returns-clause-removal c = bounded_removal

pub returns-clause-take : goal.returns-clause-take
returns-clause-take c = λ site snap image id next n b.
    let same : suc (suc (suc n)) ≡ n + 3 = omega arith in
    subst (IsBounded (copying site snap image id next)) same (bounded_copying site snap image id next n b)

pub returns-clause-remove : goal.returns-clause-remove
returns-clause-remove c = λ site image snap next n b.
    let same : suc (suc n) ≡ n + 2 = omega arith in
    subst (IsBounded (removing site image snap next)) same (bounded_removing site image snap next n b)
