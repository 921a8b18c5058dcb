use Rattle.std.proofs.Common.{[], ap, ◌∙◌, subst}
use Rattle.rbd_queue.specs.Line.{changed_member, held}
use Rattle.rbd_slots.specs.Advance.{objects_or_none, track_with, MayPass}
use Rattle.rbd_slots.specs.Lines.{lines_of}
use Rattle.rbd_slots.specs.Track.{given_tickets}
use Rattle.rbd_slots.proofs.Alike.{changes_lines, joined_track}
use Rattle.rbd_slots.proofs.Members.{not_found}
use Rattle.rbd_slots.proofs.advance.pass.Goals as goal

pub join-requires-clause-other : goal.join-requires-clause-other
join-requires-clause-other g c =
    let may = subst (MayPass c.args.slot (track_with c.args.due.now c.args.running.now c.args.lines.now)) c.in-Join.is c.requires.may in
    not_found c.args.slot (lines_of c.args.lines.now c.in-Join.site c.in-Join.image) may.1

pub returns-in-Join-clause-track : goal.returns-in-Join-clause-track
returns-in-Join-clause-track g c =
    rw c.in-Join.is
    (joined_track c.args.slot c.args.due.now c.args.running.now c.join.new.running c.args.lines.now c.join.new.lines (record { site = c.in-Join.site; image = c.in-Join.image }) c.in-Join.sharing
    c.join.ensures.running c.join.ensures.lines)

pub returns-in-Hold-clause-track : goal.returns-in-Hold-clause-track
returns-in-Hold-clause-track g c =
    rw c.in-Hold.is
    (ap (λ ls. record { place = c.args.running.now.place; turn = c.args.running.now.turn; due = objects_or_none c.args.due.now; lines = ls })
    (changes_lines c.args.running.now.place (changed_member c.args.slot held) c.args.lines.now c.hold.new.self c.hold.ensures.lines))

pub returns-in-Note-clause-track : goal.returns-in-Note-clause-track
returns-in-Note-clause-track g c =
    rw c.in-Note.is
    (ap (λ due. record { place = c.args.running.now.place; turn = c.args.running.now.turn; due = objects_or_none due; lines = lines_of c.note.new.lines }) c.note.ensures.due
    ∙ ap (λ ls. record { place = c.args.running.now.place; turn = c.args.running.now.turn; due = []; lines = ls })
    (changes_lines c.args.running.now.place (changed_member c.args.slot (given_tickets (objects_or_none c.args.due.now))) c.args.lines.now c.note.new.lines c.note.ensures.lines))
