use Rattle.std.proofs.Common.{rules, subst}
use Rattle.rbd_client.specs.Seen.{as_is}
use Rattle.rbd_world.specs.Seen.{seen}
use Rattle.rbd_world.specs.Sound.{IsSoundWorld}
use Rattle.rbd_world.proofs.SeenWorld.{line_in_world}
use Rattle.rbd_world.proofs.world.World.line.Goals as goal

pub returns-in_err-client_of-clause-line : goal.returns-in_err-client_of-clause-line
returns-in_err-client_of-clause-line c = rw line_in_world (search rules)

pub returns-in_err-client_of-clause-sound : goal.returns-in_err-client_of-clause-sound
unfolding seen
returns-in_err-client_of-clause-sound c = subst (λ w. IsSoundWorld as_is (seen w)) c.self.view_is c.self.invariant.sound

pub returns-clause-line : goal.returns-clause-line
returns-clause-line c = rw line_in_world (search rules)

pub returns-clause-sound : goal.returns-clause-sound
unfolding seen
returns-clause-sound c = subst (λ w. IsSoundWorld as_is (seen w)) c.self.view_is c.self.invariant.sound
