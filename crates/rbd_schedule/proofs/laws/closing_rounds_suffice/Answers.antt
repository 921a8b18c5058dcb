use Rattle.rbd_client.specs.Seen.{as_is}
use Rattle.rbd_schedule.proofs.Counted.{ends_idle, rounds_are_events}
use Rattle.rbd_schedule.proofs.laws.closing_rounds_suffice.Goals as goal

pub returns-clause-rounds : goal.returns-clause-rounds
returns-clause-rounds c = λ script w play. rounds_are_events as_is script w play

pub returns-clause-idle : goal.returns-clause-idle
returns-clause-idle c = λ script w play few. ends_idle as_is script w play few
