use Rattle.std.proofs.Common.{[], Some, Option, List, unwrap_or, ap, ◌∙◌, rules}
use Rattle.rbd_kinds.specs.declared.id.Instance.{Instance}
use Rattle.rbd_watch.specs.Watching.{without}
use Rattle.rbd_site.specs.Maps.{watchers_in}
use Rattle.rbd_site.proofs.WatchLemmas.{watchers_put}
use Rattle.rbd_site.proofs.watch.unwatch.Goals as goal

pub returns : goal.returns
returns c =
    watchers_put c.args.watchers.now (c.get_mut.follows.lender c.unwatch.new.self) c.args.image (Some c.unwatch.new.self)
    (without c.args.instance (watchers_in c.args.watchers.now c.args.image))
    (((c.get_mut.follows.holds c.unwatch.new.self).3 (search rules)).0)
    (c.unwatch.ensures.others ∙ ap (λ (o : Option (List Instance)). without c.args.instance (unwrap_or o [])) c.in-Some.ensures.value)
