use Rattle.rbd_schedule.proofs.Sorted.{first_none, first_pushed}
use Rattle.rbd_schedule.proofs.notices.first_of.Goals as goal

pub returns-in-Some : goal.returns-in-Some
returns-in-Some c = first_pushed c.args.inbox.now.items c.in-Some.number.now c.in-Some.ensures.item.3.0 c.in-Some.ensures.lookup

pub returns-in-None : goal.returns-in-None
returns-in-None c = first_none c.args.inbox.now.items c.in-None.ensures.item.3
