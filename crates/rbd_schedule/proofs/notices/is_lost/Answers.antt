use Rattle.std.proofs.Common.{nat_eq, sym}
use Rattle.rbd_schedule.proofs.Sorted.{none_among}
use Rattle.rbd_schedule.proofs.notices.is_lost.Goals as goal

pub returns-then-is_empty : goal.returns-then-is_empty
returns-then-is_empty c = sym (none_among (nat_eq c.args.number) c.args.lost.now.keys (c.is_empty.ensures.0 c.if-is_empty.true))
