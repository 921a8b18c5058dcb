use Rattle.rbd_machine.proofs.Children.{base_of_other, base_without, snap_of_other, snap_without}
use Rattle.rbd_machine.proofs.laws.what_is_known_of_children_ends.Goals as goal

pub returns-clause-unlinked : goal.returns-clause-unlinked
returns-clause-unlinked c = λ k site image snap child link one two. base_without site image snap child link k.based one two

pub returns-clause-made : goal.returns-clause-made
returns-clause-made c = λ k site image view link. base_of_other site image link k.based

pub returns-clause-marked : goal.returns-clause-marked
returns-clause-marked c = λ k site image snap status. snap_without site image snap k.childless

pub returns-clause-held : goal.returns-clause-held
returns-clause-held c = λ k site image snap. snap_of_other site image snap k.childless

pub returns-clause-left : goal.returns-clause-left
returns-clause-left c = λ k site image snap. snap_of_other site image snap k.childless
