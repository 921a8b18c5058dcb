use Rattle.std.proofs.Common.{sym, subst}
use Rattle.std.specs.Prelude.{IfOk}
use Rattle.rbd_machine.specs.Plan.{Asks}
use Rattle.rbd_data.specs.Read.{rest_at, closing}
use Rattle.rbd_data.proofs.read.ReadRequestMachine.next.Goals as goal

pub returns-in-Gathering : goal.returns-in-Gathering
returns-in-Gathering c =
    let r = c.args.self.now in
    subst (λ p. IfOk c.next.result (Asks (rest_at p r))) (sym c.in-Gathering.is)
    (c.next.ensures (closing r.site c.in-Gathering.field-0 c.in-Gathering.field-1))
