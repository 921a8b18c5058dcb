use Rattle.std.proofs.Common.{◌∷◌}
use Rattle.rbd_world.specs.Run.{Refused}
use Rattle.rbd_replies.proofs.HomeReplies.{home_behind, replied_at_home}
use Rattle.rbd_replies.proofs.laws.replies_are_of_their_home.Goals as goal

pub returns-clause-done : goal.returns-clause-done
returns-clause-done c = λ homes run o line reply asked right mine asks. home_behind homes line o reply run asked right mine asks

pub returns-clause-refused : goal.returns-clause-refused
returns-clause-refused c = λ homes run s line reply asked right asks.
    replied_at_home homes line reply run (Refused s line reply ∷ run) asked right.1 asks
