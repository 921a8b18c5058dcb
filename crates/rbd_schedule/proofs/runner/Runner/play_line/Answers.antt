use Rattle.std.proofs.Common.{OnOk, length, sym, subst}
use Rattle.rbd_client.specs.Seen.{as_is}
use Rattle.rbd_world.specs.Seen.{seen}
use Rattle.rbd_schedule.specs.Playing.{given_to, lost_in}
use Rattle.rbd_schedule.specs.Schedule.{Plays}
use Rattle.rbd_schedule.proofs.runner.Runner.play_line.Goals as goal

pub returns-in-Poll-clause-plays : goal.returns-in-Poll-clause-plays
returns-in-Poll-clause-plays c =
    subst
    (λ said.
    OnOk c.poll_times.result
    (Plays as_is (given_to c.args.self.now) (lost_in c.args.self.now) (length c.args.self.now.queues.items) said (seen c.args.self.now.world) (seen c.poll_times.new.self.world)))
    (sym c.in-Poll.is) c.poll_times.ensures.polls

pub returns-in-Until-clause-plays : goal.returns-in-Until-clause-plays
returns-in-Until-clause-plays c =
    subst
    (λ said.
    OnOk c.poll_until.result
    (Plays as_is (given_to c.args.self.now) (lost_in c.args.self.now) (length c.args.self.now.queues.items) said (seen c.args.self.now.world) (seen c.poll_until.new.self.world)))
    (sym c.in-Until.is) c.poll_until.ensures.polls
