use Rattle.rbd_queue.proofs.Passing.{none_yet, may_after_pass, may_after_enter, objects_stay, one_more, one_less}
use Rattle.rbd_queue.proofs.laws.taking_tickets.Goals as goal

pub returns-clause-none_yet : goal.returns-clause-none_yet
returns-clause-none_yet c = none_yet

pub returns-clause-passed : goal.returns-clause-passed
returns-clause-passed c = may_after_pass

pub returns-clause-entered : goal.returns-clause-entered
returns-clause-entered c = may_after_enter

pub returns-clause-same : goal.returns-clause-same
returns-clause-same c = objects_stay

pub returns-clause-one_more : goal.returns-clause-one_more
returns-clause-one_more c = one_more

pub returns-clause-one_less : goal.returns-clause-one_less
returns-clause-one_less c = one_less
