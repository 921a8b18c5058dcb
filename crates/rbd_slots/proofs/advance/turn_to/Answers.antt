use Rattle.rbd_queue.specs.Line.{changed_member}
use Rattle.rbd_slots.specs.Track.{done_with}
use Rattle.rbd_slots.proofs.Alike.{changes_lines}
use Rattle.rbd_slots.proofs.advance.turn_to.Goals as goal

pub returns-clause-lines : goal.returns-clause-lines
returns-clause-lines g c =
    changes_lines c.args.running.now.place (changed_member c.args.slot (done_with c.args.running.now.turn)) c.args.lines.now c.end_piece.new.lines c.end_piece.ensures.lines
