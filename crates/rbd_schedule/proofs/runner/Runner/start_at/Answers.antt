use Rattle.std.proofs.Common.{◌≡◌, ◌∙◌, subst, get_or}
use Rattle.rbd_client.specs.Seen.{as_is}
use Rattle.rbd_world.specs.Seen.{seen}
use Rattle.rbd_schedule.proofs.Goes.{built_there, command_at, goes_by_start}
use Rattle.rbd_schedule.proofs.Slots.{world_counted}
use Rattle.rbd_schedule.proofs.runner.Runner.start_at.Goals as goal

pub returns-clause-starts : goal.returns-clause-starts
returns-clause-starts c = record {
  command = c.index-command.result.now;
  may = c.requires.may
      ∙ command_at c.args.self.now c.args.session c.args.place c.index.result.now c.index-command.result.now c.requires.within
      (subst (λ s. c.index.result.now ≡ get_or c.args.self.now.queues.items s c.index.result.now) c.session.view_is c.index.ensures) c.index-command.ensures;
  built = built_there c.args.self.now c.requires.keeps c.args.session c.args.place c.index-command.result.now
      (command_at c.args.self.now c.args.session c.args.place c.index.result.now c.index-command.result.now c.requires.within
      (subst (λ s. c.index.result.now ≡ get_or c.args.self.now.queues.items s c.index.result.now) c.session.view_is c.index.ensures) c.index-command.ensures);
  result = c.in_ok-outcome.outcome;
  step = c.in_ok-outcome.ensures.step;
  counted = world_counted as_is (seen c.step.new.self) c.step.ensures.sound;
}

pub returns-clause-goes : goal.returns-clause-goes
returns-clause-goes c =
    goes_by_start c.args.session c.args.place c.index-command.result.now c.args.self.now c.step.new.self c.highest_behind-self.result c.in_ok-outcome.outcome c.requires.keeps
    (command_at c.args.self.now c.args.session c.args.place c.index.result.now c.index-command.result.now c.requires.within (subst (λ s. c.index.result.now ≡ get_or c.args.self.now.queues.items s c.index.result.now) c.session.view_is c.index.ensures) c.index-command.ensures) c.requires.may c.in_ok-outcome.ensures.step c.step.ensures.sound c.highest_behind-self.ensures
