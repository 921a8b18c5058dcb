use Rattle.std.proofs.Common.{◌≡◌, subst}
use Rattle.std.specs.Prelude.{Option, IfOk}
use Rattle.rbd_kinds.specs.declared.header.HeaderView.{HeaderView}
use Rattle.rbd_site.specs.HeaderStep.{header_answer}
use Rattle.rbd_site.proofs.header.answer.Goals as goal

pub returns-in-Some : goal.returns-in-Some
returns-in-Some c = λ watchers.
    subst (λ (o : Option HeaderView). IfOk c.answer_there.result (λ answer. answer ≡ header_answer c.args.instance o watchers c.args.op.now))
    c.in-Some.ensures.value (c.answer_there.ensures watchers)
