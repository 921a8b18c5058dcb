use Rattle.rbd_client.specs.Seen.{as_is}
use Rattle.rbd_plays.proofs.TwinSteps.{calls_alike, step_alike}
use Rattle.rbd_plays.proofs.steps.steps_have_one_outcome.Goals as goal

pub returns-clause-steps : goal.returns-clause-steps
returns-clause-steps c = step_alike as_is

pub returns-clause-calls : goal.returns-clause-calls
returns-clause-calls c = calls_alike as_is
