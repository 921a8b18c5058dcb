use Rattle.std.proofs.Common.{[], None, refl}
use Rattle.rbd_site.proofs.WatchLemmas.{watchers_put}
use Rattle.rbd_site.proofs.watch.forget.Goals as goal

pub returns-clause-gone : goal.returns-clause-gone
returns-clause-gone c = c.remove.ensures.updates.1

pub returns-clause-watchers : goal.returns-clause-watchers
returns-clause-watchers c = watchers_put c.args.watchers.now c.remove.new.self c.args.image None [] c.remove.ensures.updates.0 refl
