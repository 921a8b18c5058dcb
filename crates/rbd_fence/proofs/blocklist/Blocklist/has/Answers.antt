use Rattle.std.proofs.Common.{sym, ap, ◌∙◌}
use Rattle.std.specs.FinSet.{contains, contains-from_list}
use Rattle.rbd_fence.proofs.Sets.{total}
use Rattle.rbd_fence.proofs.blocklist.Blocklist.has.Goals as goal

pub returns : goal.returns
returns c =
    c.contains.ensures
    ∙ sym (contains-from_list total c.self.inside.instances.keys c.args.instance)
    ∙ ap (λ s. contains s c.args.instance) c.self.view_is
