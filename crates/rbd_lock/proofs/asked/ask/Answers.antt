use Rattle.std.proofs.Common.{true}
use Rattle.rbd_lock.proofs.Keys.{updated}
use Rattle.rbd_lock.proofs.asked.ask.Goals as goal

pub returns-clause-ok : goal.returns-clause-ok
returns-clause-ok c =
    updated c.args.asked.now.keys c.insert.new.self.keys c.args.at.now.site c.args.at.now.image true c.in_ok-insert.ensures.updates.0
