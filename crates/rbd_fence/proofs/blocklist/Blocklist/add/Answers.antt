use Rattle.std.proofs.Common.{ap, ◌∙◌}
use Rattle.std.specs.FinSet.{insert}
use Rattle.rbd_fence.proofs.Sets.{one_added}
use Rattle.rbd_fence.proofs.blocklist.Blocklist.add.Goals as goal

pub returns-clause-ok : goal.returns-clause-ok
returns-clause-ok c =
    one_added c.self.inside.instances.keys c.insert.new.self.keys c.args.instance c.in_ok-insert.ensures.updates.0
    ∙ ap (λ s. insert s c.args.instance) c.self.view_is
