use Rattle.rbd_world.proofs.FirstClients.{AreMade}
use Rattle.rbd_world.proofs.world.first_lives.Given as goal

abbrev pub invariant-loop-number : goal.invariant-loop-number
invariant-loop-number g l = AreMade l.homes l.number l.lives.items
