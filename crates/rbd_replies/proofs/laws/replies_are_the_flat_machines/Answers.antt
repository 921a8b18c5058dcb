use Rattle.std.proofs.Common.{◌∷◌, refl}
use Rattle.rbd_world.specs.Run.{Refused}
use Rattle.rbd_replies.proofs.RepliesOf.{reply_at_places, reply_behind}
use Rattle.rbd_replies.proofs.laws.replies_are_the_flat_machines.Goals as goal

pub returns-clause-done : goal.returns-clause-done
returns-clause-done c = λ homes run o line reply asked right mine asks. reply_behind homes line o reply run asked right mine asks

pub returns-clause-refused : goal.returns-clause-refused
returns-clause-refused c = λ homes run s line reply asked right asks.
    reply_at_places homes line reply run (Refused s line reply ∷ run) asked right refl right.1 asks
