use Rattle.std.proofs.Common.{◌<◌, ◌++◌, length, sym, ap, ◌∙◌, subst}
use Rattle.std.proofs.lemmas.Result.{on_ok_weaker}
use Rattle.rbd_world.specs.Seen.{seen}
use Rattle.rbd_schedule.specs.Given.{given_by, loses_notice, of_session}
use Rattle.rbd_schedule.specs.Playing.{given_to}
use Rattle.rbd_schedule.specs.declared.runner.Runner.{Runner}
use Rattle.rbd_schedule.proofs.Goes.{keeps_lost}
use Rattle.rbd_schedule.proofs.runner.Runner.give.Goals as goal

pub returns-clause-keeps : goal.returns-clause-keeps
returns-clause-keeps c =
    on_ok_weaker c.queue.result (λ keeps played before.
    keeps played (keeps_lost c.args.self.now c.lose_by.new.self (λ number. loses_notice number c.args.line.now.said) before c.lose_by.ensures.rest c.in_ok-lose_by.ensures.lost)) c.queue.ensures.keeps

pub returns-clause-given : goal.returns-clause-given
returns-clause-given c =
    on_ok_weaker c.queue.result (λ given session below.
    given session (subst (λ (r : Runner). session < length r.queues.items) (sym c.lose_by.ensures.rest) below)
    ∙ ap (λ (r : Runner). given_to r session ++ of_session session (given_by c.args.line.now.number c.args.line.now.said)) c.lose_by.ensures.rest) c.queue.ensures.given

pub returns-clause-lost : goal.returns-clause-lost
returns-clause-lost c = on_ok_weaker c.queue.result (λ queues number. ap (λ f. f number) c.queue.ensures.lost ∙ c.in_ok-lose_by.ensures.lost number) c.queue.ensures.queues

pub returns-clause-queues : goal.returns-clause-queues
returns-clause-queues c = on_ok_weaker c.queue.result (λ queues. queues ∙ ap (λ (r : Runner). length r.queues.items) c.lose_by.ensures.rest) c.queue.ensures.queues

pub returns-clause-world : goal.returns-clause-world
returns-clause-world c = on_ok_weaker c.queue.result (λ world. world ∙ ap (λ (r : Runner). seen r.world) c.lose_by.ensures.rest) c.queue.ensures.world
