use Rattle.std.proofs.Common.{sym, ap, ◌∙◌, subst}
use Rattle.rbd_machine.specs.Path.{at_operation}
use Rattle.rbd_machine.specs.Plan.{plan_after}
use Rattle.rbd_slots.specs.Advance.{track_of, fed_by, wanted_by}
use Rattle.rbd_slots.specs.Track.{run}
use Rattle.rbd_slots.proofs.Advancing.{IsAdvancing, advancing_begins, is_live, can_advance, advances, ends_so, stops_so, stops_on_track, ended_others, ended_fair}
use Rattle.rbd_slots.proofs.advance.advance.Goals as goal

pub loop-want-init : goal.loop-want-init
loop-want-init g c =
    advancing_begins g.R.Machine.stands g.R.Machine.is_ready c.args.slot c.args.running.now c.args.lines.now c.args.fed.now c.requires
    c.look-due.new.running c.look-due.new.lines c.look-due.result c.look-due.ensures.track c.look-due.ensures.running c.look-due.ensures.due c.look-due.ensures.open c.look-due.ensures.room c.look-due.ensures.used
    c.feed-turn.result c.feed-turn.new.self c.feed-turn.ensures

pub wanted-requires : goal.wanted-requires
wanted-requires g c =
    is_live g.R.Machine.stands c.args.slot c.args.running.now c.args.lines.now (g.R.Machine.stands c.args.running.now.request).labels
    (at_operation (g.R.Machine.stands c.args.running.now.request).labels (plan_after (g.R.Machine.stands c.args.running.now.request).plan c.args.fed.now))
    (run c.args.slot (plan_after (g.R.Machine.stands c.args.running.now.request).plan c.args.fed.now)
    (fed_by c.args.slot c.args.running.now.extent (track_of c.args.running.now c.args.lines.now) (g.R.Machine.stands c.args.running.now.request).plan c.args.fed.now))
    c.loop-want.turn c.loop-want.running c.loop-want.lines c.loop-want.due c.loop-want.invariant

pub pass-requires-clause-may : goal.pass-requires-clause-may
pass-requires-clause-may g c = (can_advance g.R.Machine.stands c.args.slot c.args.running.now c.args.lines.now (g.R.Machine.stands c.args.running.now.request).labels
    (at_operation (g.R.Machine.stands c.args.running.now.request).labels (plan_after (g.R.Machine.stands c.args.running.now.request).plan c.args.fed.now))
    (run c.args.slot (plan_after (g.R.Machine.stands c.args.running.now.request).plan c.args.fed.now)
    (fed_by c.args.slot c.args.running.now.extent (track_of c.args.running.now c.args.lines.now) (g.R.Machine.stands c.args.running.now.request).plan c.args.fed.now))
    c.loop-want.turn c.loop-want.running c.loop-want.lines c.loop-want.due c.in-Some.want c.loop-want.invariant (sym c.wanted.ensures ∙ c.in-Some.is)).may

pub pass-requires-clause-open : goal.pass-requires-clause-open
pass-requires-clause-open g c = (can_advance g.R.Machine.stands c.args.slot c.args.running.now c.args.lines.now (g.R.Machine.stands c.args.running.now.request).labels
    (at_operation (g.R.Machine.stands c.args.running.now.request).labels (plan_after (g.R.Machine.stands c.args.running.now.request).plan c.args.fed.now))
    (run c.args.slot (plan_after (g.R.Machine.stands c.args.running.now.request).plan c.args.fed.now)
    (fed_by c.args.slot c.args.running.now.extent (track_of c.args.running.now c.args.lines.now) (g.R.Machine.stands c.args.running.now.request).plan c.args.fed.now))
    c.loop-want.turn c.loop-want.running c.loop-want.lines c.loop-want.due c.in-Some.want c.loop-want.invariant (sym c.wanted.ensures ∙ c.in-Some.is)).joins

pub pass-requires-clause-room : goal.pass-requires-clause-room
pass-requires-clause-room g c = c.loop-want.invariant.room

pub loop-want-smaller : goal.loop-want-smaller
loop-want-smaller g c = (advances g.R.Machine.stands c.args.slot c.args.running.now c.args.lines.now (g.R.Machine.stands c.args.running.now.request).labels
    (at_operation (g.R.Machine.stands c.args.running.now.request).labels (plan_after (g.R.Machine.stands c.args.running.now.request).plan c.args.fed.now))
    (run c.args.slot (plan_after (g.R.Machine.stands c.args.running.now.request).plan c.args.fed.now)
    (fed_by c.args.slot c.args.running.now.extent (track_of c.args.running.now c.args.lines.now) (g.R.Machine.stands c.args.running.now.request).plan c.args.fed.now))
    c.loop-want.turn c.loop-want.running c.loop-want.lines c.loop-want.due c.in-Some.want c.requires.from c.requires.to c.loop-want.invariant (sym c.wanted.ensures ∙ c.in-Some.is)
    c.pass.new.running c.pass.new.lines c.pass.new.due c.pass.ensures.running c.pass.ensures.track c.pass.ensures.open c.pass.ensures.room c.pass.ensures.used
    c.feed-turn-in-Some.result c.feed-turn-in-Some.new.self c.feed-turn-in-Some.ensures).1

pub loop-want-preserved : goal.loop-want-preserved
loop-want-preserved g c = (advances g.R.Machine.stands c.args.slot c.args.running.now c.args.lines.now (g.R.Machine.stands c.args.running.now.request).labels
    (at_operation (g.R.Machine.stands c.args.running.now.request).labels (plan_after (g.R.Machine.stands c.args.running.now.request).plan c.args.fed.now))
    (run c.args.slot (plan_after (g.R.Machine.stands c.args.running.now.request).plan c.args.fed.now)
    (fed_by c.args.slot c.args.running.now.extent (track_of c.args.running.now c.args.lines.now) (g.R.Machine.stands c.args.running.now.request).plan c.args.fed.now))
    c.loop-want.turn c.loop-want.running c.loop-want.lines c.loop-want.due c.in-Some.want c.requires.from c.requires.to c.loop-want.invariant (sym c.wanted.ensures ∙ c.in-Some.is)
    c.pass.new.running c.pass.new.lines c.pass.new.due c.pass.ensures.running c.pass.ensures.track c.pass.ensures.open c.pass.ensures.room c.pass.ensures.used
    c.feed-turn-in-Some.result c.feed-turn-in-Some.new.self c.feed-turn-in-Some.ensures).0

pub returns-in-Done-clause-comes : goal.returns-in-Done-clause-comes
returns-in-Done-clause-comes g c =
    ends_so g.R.Machine.stands c.args.slot c.args.running.now c.args.lines.now (g.R.Machine.stands c.args.running.now.request).labels
    (at_operation (g.R.Machine.stands c.args.running.now.request).labels (plan_after (g.R.Machine.stands c.args.running.now.request).plan c.args.fed.now))
    (run c.args.slot (plan_after (g.R.Machine.stands c.args.running.now.request).plan c.args.fed.now)
    (fed_by c.args.slot c.args.running.now.extent (track_of c.args.running.now c.args.lines.now) (g.R.Machine.stands c.args.running.now.request).plan c.args.fed.now))
    c.in-Done.reply c.loop-want.running c.loop-want.lines c.loop-want.due (subst (λ u. IsAdvancing g.R.Machine.stands c.args.slot c.args.running.now c.args.lines.now (g.R.Machine.stands c.args.running.now.request).labels (at_operation (g.R.Machine.stands c.args.running.now.request).labels (plan_after (g.R.Machine.stands c.args.running.now.request).plan c.args.fed.now)) (run c.args.slot (plan_after (g.R.Machine.stands c.args.running.now.request).plan c.args.fed.now) (fed_by c.args.slot c.args.running.now.extent (track_of c.args.running.now c.args.lines.now) (g.R.Machine.stands c.args.running.now.request).plan c.args.fed.now)) u c.loop-want.running c.loop-want.lines c.loop-want.due) c.in-Done.is c.loop-want.invariant)
    c.leave.new.running c.leave.new.lines c.leave.ensures.lines

pub returns-in-Done-clause-others : goal.returns-in-Done-clause-others
returns-in-Done-clause-others g c =
    ended_others g.R.Machine.stands c.args.slot c.args.running.now c.args.lines.now (g.R.Machine.stands c.args.running.now.request).labels
    (at_operation (g.R.Machine.stands c.args.running.now.request).labels (plan_after (g.R.Machine.stands c.args.running.now.request).plan c.args.fed.now))
    (run c.args.slot (plan_after (g.R.Machine.stands c.args.running.now.request).plan c.args.fed.now)
    (fed_by c.args.slot c.args.running.now.extent (track_of c.args.running.now c.args.lines.now) (g.R.Machine.stands c.args.running.now.request).plan c.args.fed.now))
    c.loop-want.running c.loop-want.lines c.leave.new.lines c.loop-want.invariant.others c.leave.ensures.lines

pub returns-in-Done-clause-fair : goal.returns-in-Done-clause-fair
returns-in-Done-clause-fair g c =
    ended_fair g.R.Machine.stands c.args.slot c.args.running.now c.args.lines.now (g.R.Machine.stands c.args.running.now.request).labels
    (at_operation (g.R.Machine.stands c.args.running.now.request).labels (plan_after (g.R.Machine.stands c.args.running.now.request).plan c.args.fed.now))
    (run c.args.slot (plan_after (g.R.Machine.stands c.args.running.now.request).plan c.args.fed.now)
    (fed_by c.args.slot c.args.running.now.extent (track_of c.args.running.now c.args.lines.now) (g.R.Machine.stands c.args.running.now.request).plan c.args.fed.now))
    c.loop-want.running c.loop-want.lines c.leave.new.lines c.loop-want.invariant.fair c.leave.ensures.lines

pub returns-clause-comes : goal.returns-clause-comes
returns-clause-comes g c =
    stops_so g.R.Machine.stands c.args.slot c.args.running.now c.args.lines.now (g.R.Machine.stands c.args.running.now.request).labels
    (at_operation (g.R.Machine.stands c.args.running.now.request).labels (plan_after (g.R.Machine.stands c.args.running.now.request).plan c.args.fed.now))
    (run c.args.slot (plan_after (g.R.Machine.stands c.args.running.now.request).plan c.args.fed.now)
    (fed_by c.args.slot c.args.running.now.extent (track_of c.args.running.now c.args.lines.now) (g.R.Machine.stands c.args.running.now.request).plan c.args.fed.now))
    c.loop-want.running c.loop-want.lines c.loop-want.due (subst (λ u. IsAdvancing g.R.Machine.stands c.args.slot c.args.running.now c.args.lines.now (g.R.Machine.stands c.args.running.now.request).labels (at_operation (g.R.Machine.stands c.args.running.now.request).labels (plan_after (g.R.Machine.stands c.args.running.now.request).plan c.args.fed.now)) (run c.args.slot (plan_after (g.R.Machine.stands c.args.running.now.request).plan c.args.fed.now) (fed_by c.args.slot c.args.running.now.extent (track_of c.args.running.now c.args.lines.now) (g.R.Machine.stands c.args.running.now.request).plan c.args.fed.now)) u c.loop-want.running c.loop-want.lines c.loop-want.due) c.in-More.is c.loop-want.invariant)
    (ap (λ u. wanted_by u (g.R.Machine.stands c.loop-want.running.request).plan) (sym c.in-More.is) ∙ sym c.wanted.ensures ∙ c.in_default.is)

pub returns-clause-keeps : goal.returns-clause-keeps
returns-clause-keeps g c =
    stops_on_track g.R.Machine.stands c.args.slot c.args.running.now c.args.lines.now (g.R.Machine.stands c.args.running.now.request).labels
    (at_operation (g.R.Machine.stands c.args.running.now.request).labels (plan_after (g.R.Machine.stands c.args.running.now.request).plan c.args.fed.now))
    (run c.args.slot (plan_after (g.R.Machine.stands c.args.running.now.request).plan c.args.fed.now)
    (fed_by c.args.slot c.args.running.now.extent (track_of c.args.running.now c.args.lines.now) (g.R.Machine.stands c.args.running.now.request).plan c.args.fed.now))
    c.loop-want.running c.loop-want.lines c.loop-want.due (subst (λ u. IsAdvancing g.R.Machine.stands c.args.slot c.args.running.now c.args.lines.now (g.R.Machine.stands c.args.running.now.request).labels (at_operation (g.R.Machine.stands c.args.running.now.request).labels (plan_after (g.R.Machine.stands c.args.running.now.request).plan c.args.fed.now)) (run c.args.slot (plan_after (g.R.Machine.stands c.args.running.now.request).plan c.args.fed.now) (fed_by c.args.slot c.args.running.now.extent (track_of c.args.running.now c.args.lines.now) (g.R.Machine.stands c.args.running.now.request).plan c.args.fed.now)) u c.loop-want.running c.loop-want.lines c.loop-want.due) c.in-More.is c.loop-want.invariant)
    (ap (λ u. wanted_by u (g.R.Machine.stands c.loop-want.running.request).plan) (sym c.in-More.is) ∙ sym c.wanted.ensures ∙ c.in_default.is)

pub returns-clause-others : goal.returns-clause-others
returns-clause-others g c = c.loop-want.invariant.others

pub returns-clause-fair : goal.returns-clause-fair
returns-clause-fair g c = c.loop-want.invariant.fair

pub returns-in-Done-clause-used : goal.returns-in-Done-clause-used
returns-in-Done-clause-used g c = λ were. c.leave.ensures.used (c.loop-want.invariant.used were)

pub returns-clause-used : goal.returns-clause-used
returns-clause-used g c = c.loop-want.invariant.used
