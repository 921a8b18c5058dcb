use Rattle.rbd_catalog.proofs.FollowsAll.{command_follows}
use Rattle.rbd_catalog.proofs.rows.commands_follow_their_rows.Goals as goal

pub returns : goal.returns
returns c = command_follows
