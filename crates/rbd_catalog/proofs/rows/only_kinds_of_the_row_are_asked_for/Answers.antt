use Rattle.rbd_kinds.specs.OperationKind.{kind_of}
use Rattle.rbd_catalog.proofs.Consequences.{asked_kind, is_none}
use Rattle.rbd_catalog.proofs.FollowsAll.{command_follows}
use Rattle.rbd_catalog.specs.Profile.{profile}
use Rattle.rbd_catalog.proofs.rows.only_kinds_of_the_row_are_asked_for.Goals as goal

pub returns-clause-kind : goal.returns-clause-kind
returns-clause-kind c = λ seat command site why o next to.
    asked_kind _ to.standing (command_follows seat command to.standing to.is) to.feds to.steps site why o next to.walk

pub returns-clause-none : goal.returns-clause-none
returns-clause-none c = λ these seat command site why o next none to.
    is_none these (profile command).kinds none (kind_of o)
    (asked_kind _ to.standing (command_follows seat command to.standing to.is) to.feds to.steps site why o next to.walk)
