use Rattle.rbd_site.specs.Maps.{watchers_in}
use Rattle.rbd_site.proofs.store.Store.answer_on_header.Goals as goal

pub returns-in-WatchersGet : goal.returns-in-WatchersGet
returns-in-WatchersGet c = rw c.in-WatchersGet.is (c.who_watches.ensures c.args.instance)

pub returns-in_default : goal.returns-in_default
returns-in_default c = c.answer.ensures (watchers_in c.args.self.now.watchers c.args.image)
