-- All operations that a request asks for, whatever it is answered.
use Rattle.rbd_kinds.specs.declared.answer.Answer.{Answer}
use Rattle.rbd_kinds.specs.declared.operation.Op.{Op}
use Rattle.rbd_machine.specs.Label.{Label}
use Rattle.rbd_machine.specs.Plan.{Plan, Ask, Await, Note, Return, Goto, Standing}
pub use Rattle.rbd_catalog.specs.NoLooks.{IsNoLook}

-- It asks for nothing but such operations, up to its end.
abbrev pub AsksOnly : (May : Op → Type 0) → Plan → Type 0
AsksOnly May (Ask site why o next) = May o × ((answer : Answer) → AsksOnly May (next answer))
AsksOnly May (Await wait next) = AsksOnly May next
AsksOnly May (Note site image event next) = AsksOnly May next
AsksOnly May (Return reply) = Unit {0}
AsksOnly May (Goto label) = Unit {0}

pub record DoesOnly (May : Op → Type 0) (s : Standing) : Type 0 where
  pub plan : AsksOnly May s.plan
  pub labels : (label : Label) → AsksOnly May (s.labels label)
