use Rattle.std.proofs.Common.{◌∙◌, ap}
use Rattle.rbd_lock.specs.States.{answered}
use Rattle.rbd_lock.proofs.States.{at_same, room_for}
use Rattle.rbd_lock.proofs.locks.Locks.answered.Goals as goal

pub set-requires-clause-room : goal.set-requires-clause-room
set-requires-clause-room c =
    let at = c.args.at.now in
    let is = c.answered-state.ensures ∙ ap (answered c.args.op.now c.args.answer.now) c.state.ensures.state in
    room_for at.image c.args.op.now c.args.answer.now _ _ c.args.self.now.room is (c.requires at.image)

pub returns-clause-states : goal.returns-clause-states
returns-clause-states c = λ site image.
    let at = c.args.at.now in
    let change = answered c.args.op.now c.args.answer.now in
    c.set.ensures.states site image
    ∙ at_same at.site at.image change c.args.self.now c.answered-state.result (c.answered-state.ensures ∙ ap change c.state.ensures.state) site image
