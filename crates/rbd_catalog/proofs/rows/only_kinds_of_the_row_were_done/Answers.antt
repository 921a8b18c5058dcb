use Rattle.rbd_catalog.proofs.Consequences.{done_kinds, none_done}
use Rattle.rbd_catalog.proofs.FollowsAll.{command_follows}
use Rattle.rbd_catalog.specs.Profile.{profile}
use Rattle.rbd_catalog.proofs.rows.only_kinds_of_the_row_were_done.Goals as goal

pub returns-clause-kind : goal.returns-clause-kind
returns-clause-kind c = λ seat command s feds steps last is walk. done_kinds (profile command) s (command_follows seat command s is) feds steps last walk

pub returns-clause-none : goal.returns-clause-none
returns-clause-none c = λ these seat command s feds steps last none is walk.
    none_done these (profile command) none s (command_follows seat command s is) feds steps last walk
