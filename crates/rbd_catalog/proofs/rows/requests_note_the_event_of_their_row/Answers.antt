use Rattle.rbd_catalog.proofs.Consequences.{noted_event}
use Rattle.rbd_catalog.proofs.FollowsAll.{command_follows}
use Rattle.rbd_catalog.proofs.rows.requests_note_the_event_of_their_row.Goals as goal

pub returns : goal.returns
returns c = λ seat command site image event next to.
    noted_event _ to.standing (command_follows seat command to.standing to.is) to.feds to.steps site image event next to.walk
