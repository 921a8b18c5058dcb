use Rattle.std.proofs.Common.{◌∙◌, sym}
use Rattle.rbd_slots.specs.Track.{done_with}
use Rattle.rbd_slots.specs.Lines.{members_at, is_key}
use Rattle.rbd_slots.proofs.Alike.{unchanged_at, no_turn}
use Rattle.rbd_slots.proofs.advance.end_piece.Goals as goal

pub returns-else-is_some-clause-lines : goal.returns-else-is_some-clause-lines
returns-else-is_some-clause-lines c = λ key.
    unchanged_at (is_key c.args.place key) c.args.slot (done_with c.args.turn) (no_turn c.args.turn (sym c.is_some.ensures ∙ c.if-is_some.false))
    (members_at key c.args.lines.now)
