use Rattle.std.proofs.Common.{◌≡◌, Option, IfOk, sym, subst}
use Rattle.rbd_kinds.specs.declared.answer.Answer.TheVariants as of_answer
use Rattle.rbd_kinds.specs.declared.header.HeaderView as of_header
use Rattle.rbd_kinds.specs.declared.operation.Op.{Op}
use Rattle.rbd_stands.specs.Effect.{effect_of_op}
use Rattle.rbd_stands.proofs.effect.of_id.Goals as goal

pub returns-in-Directory : goal.returns-in-Directory
returns-in-Directory c =
    subst (λ (o : Op). IfOk c.of_id.result (λ effect. (header : Option of_header.HeaderView) → effect ≡ effect_of_op header o (of_answer.Id c.args.image))) (sym c.in-Directory.is) c.of_id.ensures
