use Rattle.std.proofs.Common.{◌≡◌, Option, IfOk, option_copied, sym, subst}
use Rattle.std.proofs.lemmas.Result.{IfOk-weaker}
use Rattle.rbd_kinds.specs.declared.answer.Answer.TheVariants as of_answer
use Rattle.rbd_kinds.specs.declared.header.HeaderView as of_header
use Rattle.rbd_kinds.specs.declared.operation.Op.{Op}
use Rattle.rbd_kinds.specs.declared.operation.Op.TheVariants as of_op
use Rattle.rbd_flat.specs.declared.effect.Effect.{Effect}
use Rattle.rbd_stands.specs.Effect.{effect_of_op}
use Rattle.rbd_stands.proofs.effect.of_done.Goals as goal

pub returns-in-Directory : goal.returns-in-Directory
returns-in-Directory c =
    subst (λ (o : Op). IfOk c.of_done.result (λ effect. effect ≡ effect_of_op (option_copied c.args.header) o of_answer.Done)) (sym c.in-Directory.is)
    (IfOk-weaker c.of_done.result (λ (effect : Option Effect). (header : Option of_header.HeaderView) → effect ≡ effect_of_op header (of_op.Directory c.in-Directory.op) of_answer.Done)
    (λ effect. effect ≡ effect_of_op (option_copied c.args.header) (of_op.Directory c.in-Directory.op) of_answer.Done)
    (λ effect is. is (option_copied c.args.header)) c.of_done.ensures)

pub returns-in-Children : goal.returns-in-Children
returns-in-Children c =
    subst (λ (o : Op). c.of_done-in-Children.result ≡ effect_of_op (option_copied c.args.header) o of_answer.Done) (sym c.in-Children.is)
    (c.of_done-in-Children.ensures (option_copied c.args.header))
