use Rattle.rbd_client.specs.Seen.{as_is}
use Rattle.rbd_plays.proofs.ReadAlike.{due_alike, held_alike, kind_alike, line_alike, mail_length_alike, run_alike, starts_alike}
use Rattle.rbd_plays.proofs.steps.schedules_read_the_same.Goals as goal

pub returns-clause-starts : goal.returns-clause-starts
returns-clause-starts c = starts_alike as_is

pub returns-clause-kinds : goal.returns-clause-kinds
returns-clause-kinds c = kind_alike as_is

pub returns-clause-lines : goal.returns-clause-lines
returns-clause-lines c = line_alike as_is

pub returns-clause-held : goal.returns-clause-held
returns-clause-held c = held_alike as_is

pub returns-clause-runs : goal.returns-clause-runs
returns-clause-runs c = run_alike as_is

pub returns-clause-due : goal.returns-clause-due
returns-clause-due c = due_alike as_is

pub returns-clause-mail : goal.returns-clause-mail
returns-clause-mail c = mail_length_alike as_is
