use Rattle.rbd_queue.specs.Line.{without}
use Rattle.rbd_slots.proofs.Alike.{changes_lines}
use Rattle.rbd_slots.proofs.advance.leave.Goals as goal

pub returns-clause-lines : goal.returns-clause-lines
returns-clause-lines g c = changes_lines c.args.running.now.place (without c.args.slot) c.args.lines.now c.leave.new.self c.leave.ensures.lines
