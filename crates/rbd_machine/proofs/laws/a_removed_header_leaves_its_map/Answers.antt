use Rattle.rbd_machine.proofs.Gone.{gone_is_known, map_goes_once, map_is_there}
use Rattle.rbd_machine.proofs.Lawful.{left_here}
use Rattle.rbd_machine.proofs.laws.a_removed_header_leaves_its_map.Goals as goal

pub returns-clause-gone : goal.returns-clause-gone
returns-clause-gone c = gone_is_known

pub returns-clause-unowned : goal.returns-clause-unowned
returns-clause-unowned c = λ k site image. left_here site image k.owns

pub returns-clause-map : goal.returns-clause-map
returns-clause-map c = map_is_there

pub returns-clause-once : goal.returns-clause-once
returns-clause-once c = λ k site image may. map_goes_once k site image may.1
