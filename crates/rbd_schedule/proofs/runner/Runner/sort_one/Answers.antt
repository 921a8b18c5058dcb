use Rattle.std.proofs.Common.{◌+◌, refl, sym, ◌∙◌}
use Rattle.rbd_schedule.proofs.Goes.{goes_by_put}
use Rattle.rbd_schedule.proofs.runner.Runner.sort_one.Goals as goal

pub returns-clause-goes : goal.returns-clause-goes
returns-clause-goes c =
    goes_by_put c.args.self.now (record c.args.self.now { sorted = c.args.self.now.sorted + 1; inboxes = c.put.new.inboxes }) c.in-Some.to refl refl
    (sym c.receiver.ensures ∙ c.in-Some.is) c.in_ok-put.ensures.count c.in_ok-put.ensures.here c.in_ok-put.ensures.others
