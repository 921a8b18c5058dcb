use Rattle.rbd_replies.proofs.OwnedLogs.{log_is_owned, world_logs}
use Rattle.rbd_replies.proofs.laws.logs_are_owned.Goals as goal

pub returns-clause-run : goal.returns-clause-run
returns-clause-run c = log_is_owned

pub returns-clause-world : goal.returns-clause-world
returns-clause-world c = world_logs
