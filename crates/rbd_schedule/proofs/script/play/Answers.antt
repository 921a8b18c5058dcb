use Rattle.std.proofs.Common.{length, sym, ap, ◌∙◌, subst}
use Rattle.rbd_client.specs.Seen.{as_is}
use Rattle.rbd_world.specs.Seen.{seen}
use Rattle.rbd_world.specs.Sound.{AreAtHome}
use Rattle.rbd_schedule.specs.Ends.{HasCalmed}
use Rattle.rbd_schedule.specs.Playing.{IsPlay, homes_of}
use Rattle.rbd_schedule.proofs.Calmed.{plays_rest}
use Rattle.rbd_schedule.proofs.script.play.Goals as goal

pub play_script-requires-clause-queues : goal.play_script-requires-clause-queues
play_script-requires-clause-queues c = c.in_ok-runner.ensures.queues ∙ ap length c.as_slice.ensures

pub returns-in-Ok-clause-play : goal.returns-in-Ok-clause-play
returns-in-Ok-clause-play c =
    let it : IsPlay as_is c.args.script.now (seen c.play_script.new.self.world) = record {
      first = seen c.in_ok-runner.runner.world;
      new = c.in_ok-runner.ensures.new;
      homes = subst (λ sessions. AreAtHome (homes_of sessions) (seen c.in_ok-runner.runner.world).lives) c.as_slice.ensures c.in_ok-runner.ensures.homes;
      plays = c.in-Ok.ensures.plays;
      told = c.in-Ok.ensures.sound.told;
    } in
    subst (λ w. IsPlay as_is c.args.script.now (seen w)) (sym c.into_world.ensures) it

pub returns-in-Ok-clause-calmed : goal.returns-in-Ok-clause-calmed
returns-in-Ok-clause-calmed c =
    let it : IsPlay as_is c.args.script.now (seen c.play_script.new.self.world) = record {
      first = seen c.in_ok-runner.runner.world;
      new = c.in_ok-runner.ensures.new;
      homes = subst (λ sessions. AreAtHome (homes_of sessions) (seen c.in_ok-runner.runner.world).lives) c.as_slice.ensures c.in_ok-runner.ensures.homes;
      plays = c.in-Ok.ensures.plays;
      told = c.in-Ok.ensures.sound.told;
    } in
    subst (λ w. HasCalmed as_is c.args.script.now (seen w)) (sym c.into_world.ensures)
    (plays_rest as_is c.args.script.now (seen c.play_script.new.self.world) it c.in-Ok.ensures.sound c.in-Ok.ensures.few)
