use Rattle.rbd_world.specs.Run.{way_of}
use Rattle.rbd_world.proofs.WaysOfLines.{are_a_way, fenced_first, is_bounded, takes_once_a_round}
use Rattle.rbd_world.proofs.laws.ways_lead_to_locks.Goals as goal

pub returns-clause-ways : goal.returns-clause-ways
returns-clause-ways c = λ w sound line. are_a_way sound.told.homes line sound.told.run sound.told.right

pub returns-clause-broken : goal.returns-clause-broken
returns-clause-broken c = λ w sound line image owner s a before after is.
    fenced_first (way_of line sound.told.run) (are_a_way sound.told.homes line sound.told.run sound.told.right) image owner s a before after is

pub returns-clause-takes : goal.returns-clause-takes
returns-clause-takes c = λ w sound line. takes_once_a_round (way_of line sound.told.run) (are_a_way sound.told.homes line sound.told.run sound.told.right)

pub returns-clause-all : goal.returns-clause-all
returns-clause-all c = λ w sound line. is_bounded (way_of line sound.told.run) (are_a_way sound.told.homes line sound.told.run sound.told.right)
