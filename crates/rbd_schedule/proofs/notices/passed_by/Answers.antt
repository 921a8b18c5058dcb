use Rattle.std.proofs.Common.{sym, ◌∙◌}
use Rattle.rbd_schedule.proofs.Sorted.{passed_first, passed_none}
use Rattle.rbd_schedule.proofs.notices.passed_by.Goals as goal

pub returns-in-Some : goal.returns-in-Some
returns-in-Some c = c.saturating_sub.ensures ∙ passed_first c.args.inbox.now.items c.in-Some.number c.args.sorted (sym c.first_of.ensures ∙ c.in-Some.is)

pub returns-in-None : goal.returns-in-None
returns-in-None c = passed_none c.args.inbox.now.items c.args.sorted (sym c.first_of.ensures ∙ c.in-None.is)
