use Rattle.std.proofs.Common.{[], ◌∙◌, sym, ap}
use Rattle.rbd_slots.specs.Advance.{objects_or_none}
use Rattle.rbd_slots.specs.Lines.{members_at, is_key}
use Rattle.rbd_slots.specs.Track.{given_tickets}
use Rattle.rbd_slots.proofs.Alike.{unchanged_at}
use Rattle.rbd_slots.proofs.Entering.{given_none}
use Rattle.rbd_slots.proofs.advance.note.Goals as goal

pub returns-in_default-clause-lines : goal.returns-in_default-clause-lines
returns-in_default-clause-lines c = λ key.
    rw (ap objects_or_none (sym c.take.ensures.value ∙ c.in_default.is))
    (unchanged_at (is_key c.args.place key) c.args.slot (given_tickets []) given_none (members_at key c.args.lines.now))
