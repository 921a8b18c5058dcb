use Rattle.std.proofs.Common.{sym, subst}
use Rattle.rbd_machine.specs.Plan.{Wants}
use Rattle.rbd_data.specs.Read.{rest_at, closing}
use Rattle.rbd_data.proofs.read.ReadRequestMachine.wants.Goals as goal

pub returns-in-Gathering : goal.returns-in-Gathering
returns-in-Gathering c =
    let r = c.args.self.now in
    subst (λ p. Wants (rest_at p r) c.wants.result) (sym c.in-Gathering.is)
    (c.wants.ensures (closing r.site c.in-Gathering.field-0 c.in-Gathering.field-1))
