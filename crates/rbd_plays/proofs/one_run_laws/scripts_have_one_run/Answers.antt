use Rattle.rbd_client.specs.Seen.{as_is}
use Rattle.rbd_plays.proofs.ScheduleRun.{one_run}
use Rattle.rbd_plays.proofs.one_run_laws.scripts_have_one_run.Goals as goal

pub returns : goal.returns
returns c = one_run as_is
