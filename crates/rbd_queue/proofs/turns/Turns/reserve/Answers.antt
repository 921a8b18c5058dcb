use Rattle.std.proofs.Common.{◌∙◌, ap}
use Rattle.rbd_queue.specs.Turns.{holders, held_by}
use Rattle.rbd_queue.proofs.Owned.{same_holders, same_held}
use Rattle.rbd_queue.proofs.turns.Turns.reserve.Goals as goal

pub returns-clause-holders : goal.returns-clause-holders
returns-clause-holders c = λ object. same_holders c.self.inside.guard c.reserve.new.self object c.reserve.ensures.same ∙ ap (holders object) c.self.view_is

pub returns-clause-held : goal.returns-clause-held
returns-clause-held c = λ slot. same_held c.self.inside.guard c.reserve.new.self slot c.reserve.ensures.same ∙ ap (held_by slot) c.self.view_is
