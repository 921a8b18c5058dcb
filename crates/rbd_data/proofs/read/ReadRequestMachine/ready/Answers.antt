use Rattle.std.proofs.Common.{◌∙◌, sym, ap}
use Rattle.rbd_data.specs.Read.{rest_at, closing, read_standing}
use Rattle.rbd_data.proofs.read.ReadRequestMachine.ready.Goals as goal

pub returns-in-Gathering-clause-stands : goal.returns-in-Gathering-clause-stands
returns-in-Gathering-clause-stands c =
    let r = c.args.self.now in
    ap (read_standing r.site r.name r.snap r.extent)
    (c.ready.ensures.rest (closing r.site c.in-Gathering.field-0 c.in-Gathering.field-1) ∙ ap (λ p. rest_at p r) (sym c.in-Gathering.is))
