use Rattle.rbd_catalog.proofs.Consequences.{joined_as, never_leaves}
use Rattle.rbd_catalog.proofs.FollowsAll.{command_follows}
use Rattle.rbd_catalog.proofs.rows.requests_stay_in_the_line_of_their_row.Goals as goal

pub returns-clause-joins : goal.returns-clause-joins
returns-clause-joins c = λ seat command site image sharing next to.
    joined_as _ to.standing (command_follows seat command to.standing to.is) to.feds to.steps site image sharing next to.walk

pub returns-clause-stays : goal.returns-clause-stays
returns-clause-stays c = λ seat command site image next to.
    never_leaves _ to.standing (command_follows seat command to.standing to.is) to.feds to.steps site image next to.walk
