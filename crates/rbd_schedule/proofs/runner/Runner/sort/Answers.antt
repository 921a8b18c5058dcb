use Rattle.std.proofs.Common.{refl, ◌∙◌}
use Rattle.rbd_schedule.proofs.Goes.{goes_same, goes_then}
use Rattle.rbd_schedule.proofs.runner.Runner.sort.Goals as goal

pub loop-init : goal.loop-init
loop-init c = record { goes = goes_same c.args.self.now; world = refl }

pub sort_one-requires : goal.sort_one-requires
sort_one-requires c = c.loop.invariant.goes.keeps c.requires

pub loop-preserved : goal.loop-preserved
loop-preserved c = record {
  goes = goes_then c.args.self.now c.loop.self c.sort_one.new.self c.loop.invariant.goes c.in_ok-sort_one.ensures.goes;
  world = c.in_ok-sort_one.ensures.world ∙ c.loop.invariant.world;
}

pub returns-clause-goes : goal.returns-clause-goes
returns-clause-goes c = c.loop.invariant.goes

pub returns-clause-world : goal.returns-clause-world
returns-clause-world c = c.loop.invariant.world
