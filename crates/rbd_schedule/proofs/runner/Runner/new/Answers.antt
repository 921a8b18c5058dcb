use Rattle.std.proofs.Common.{◌≤◌, false, refl, sym, ap, subst}
use Rattle.std.specs.Prelude.{is_some}
use Rattle.rbd_schedule.proofs.Goes.{given_none, keeps_new}
use Rattle.rbd_schedule.proofs.runner.Runner.new.Goals as goal

pub returns-clause-keeps : goal.returns-clause-keeps
returns-clause-keeps c =
    keeps_new
    (record { world = c.in_ok-world.world; queues = c.in_ok-queues.queues; over = c.new-2.result; is_due = false; highest = 0; heard = c.new-3.result; lost = c.new-4.result; sorted = 0; inboxes = c.in_ok-inboxes.inboxes })
    c.in_ok-world.ensures.sound
    (subst (λ n. n ≤ 32) (sym c.in_ok-queues.ensures.count) c.requires) c.in_ok-queues.ensures.empty c.in_ok-world.ensures.new (λ line. ap is_some (c.new-2.ensures line))
    c.new-3.ensures refl refl c.in_ok-inboxes.ensures

pub returns-clause-given : goal.returns-clause-given
returns-clause-given c = given_none (record { world = c.in_ok-world.world; queues = c.in_ok-queues.queues; over = c.new-2.result; is_due = false; highest = 0; heard = c.new-3.result; lost = c.new-4.result; sorted = 0; inboxes = c.in_ok-inboxes.inboxes }) c.in_ok-queues.ensures.empty

pub returns-clause-queues : goal.returns-clause-queues
returns-clause-queues c = c.in_ok-queues.ensures.count
