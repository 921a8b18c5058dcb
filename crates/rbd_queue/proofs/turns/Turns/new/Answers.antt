use Rattle.rbd_queue.proofs.Owned.{empty_holders, empty_held}
use Rattle.rbd_queue.proofs.turns.Turns.new.Goals as goal

pub returns-clause-holders : goal.returns-clause-holders
returns-clause-holders c = λ object. empty_holders c.new.result object (c.new.ensures.queue object)

pub returns-clause-held : goal.returns-clause-held
returns-clause-held c = λ slot. empty_held c.new.result slot (c.new.ensures.list slot)
