use Rattle.std.proofs.Common.{ap, ◌∙◌}
use Rattle.rbd_watch.specs.Watching.{without}
use Rattle.rbd_watch.proofs.Removal.{removed_is_without}
use Rattle.rbd_watch.proofs.watchers.Watchers.unwatch.Goals as goal

pub returns-clause-others : goal.returns-clause-others
returns-clause-others c =
    c.shift_remove.ensures.keys
    ∙ removed_is_without c.args.instance c.self.inside.instances.keys c.self.invariant
    ∙ ap (without c.args.instance) c.self.view_is
