use Rattle.rbd_client.specs.Seen.{as_is}
use Rattle.rbd_replies.proofs.Worlds.{calls_are_events, history_begins_with}
use Rattle.rbd_replies.proofs.laws.events_are_told_one_by_one.Goals as goal

pub returns-clause-calls : goal.returns-clause-calls
returns-clause-calls c = calls_are_events as_is

pub returns-clause-history : goal.returns-clause-history
returns-clause-history c = history_begins_with as_is
