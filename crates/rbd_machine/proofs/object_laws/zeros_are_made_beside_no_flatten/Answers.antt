use Rattle.std.proofs.Common.{refl}
use Rattle.rbd_machine.proofs.Objects.{beside_none, removal_beside_none}
use Rattle.rbd_machine.proofs.object_laws.zeros_are_made_beside_no_flatten.Goals as goal

pub returns-clause-zeros : goal.returns-clause-zeros
returns-clause-zeros c = λ k site image number context must parts s h is may. beside_none k site image s h is _ may may.meets.zeros

pub returns-clause-emptying : goal.returns-clause-emptying
returns-clause-emptying c = λ k site image number context s h is may. beside_none k site image s h is _ may may.meets.zeros

pub returns-clause-removing : goal.returns-clause-removing
returns-clause-removing c = λ k site image number context s h is may. removal_beside_none k site image s h is number context may

pub returns-clause-lowering : goal.returns-clause-lowering
returns-clause-lowering c = λ k site image number s h is may. beside_none k site image s h is _ may (may.meets.zeros refl)
