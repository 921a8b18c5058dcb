use Rattle.rbd_client.specs.Seen.{as_is}
use Rattle.rbd_world.proofs.Wanted.{drops_what_it_may, may_come, wants_what_it_may}
use Rattle.rbd_world.proofs.laws.what_is_wanted_may_be_done.Goals as goal

pub returns-clause-wanted : goal.returns-clause-wanted
returns-clause-wanted c = wants_what_it_may as_is

pub returns-clause-late : goal.returns-clause-late
returns-clause-late c = may_come as_is

pub returns-clause-drops : goal.returns-clause-drops
returns-clause-drops c = drops_what_it_may as_is
