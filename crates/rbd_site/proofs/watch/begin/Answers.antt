use Rattle.std.proofs.Common.{[], ◌∷◌, Some, ap, ◌∙◌}
use Rattle.rbd_watch.specs.Watching.{registered}
use Rattle.rbd_site.proofs.WatchLemmas.{watchers_put}
use Rattle.rbd_site.proofs.watch.begin.Goals as goal

pub returns-clause-ok : goal.returns-clause-ok
returns-clause-ok c =
    watchers_put c.args.watchers.now c.insert.new.self c.args.image (Some c.watch.new.self) (c.args.instance ∷ [])
    c.in_ok-insert.ensures.updates.0
    (c.in_ok-watch.ensures.ok ∙ ap (registered c.args.instance) c.new-first.ensures)
