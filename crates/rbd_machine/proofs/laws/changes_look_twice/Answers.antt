use Rattle.std.proofs.Common.{◌+◌, ◌≡◌, suc, arith, subst}
use Rattle.rbd_machine.specs.Path.{IsBounded}
use Rattle.rbd_machine.specs.Steps.{change_plan}
use Rattle.rbd_machine.proofs.Bounds.{bounded_change}
use Rattle.rbd_machine.proofs.laws.changes_look_twice.Goals as goal

-- src/laws.rt:16:1
pub returns : goal.returns
returns c = λ site name sharing refuses act n acts.
    let three_more : suc (suc (suc n)) ≡ n + 3 = omega arith in
    subst (IsBounded (change_plan site name sharing refuses act)) three_more (bounded_change site refuses act n acts name sharing)
