use Rattle.std.proofs.Common.{sym, ap, ◌∙◌}
use Rattle.std.specs.Option.{option_map}
use Rattle.rbd_slots.specs.Session.{held_in}
use Rattle.rbd_slots.proofs.NoLook.{no_look_under_lock}
use Rattle.rbd_slots.proofs.wanted.look_under_lock.Goals as goal

pub returns-in_default-look_under_lock_of : goal.returns-in_default-look_under_lock_of
returns-in_default-look_under_lock_of g c =
    no_look_under_lock g.R.Machine.stands c.args.slot c.args.lines.now (held_in c.args.slot c.args.slots.now) c.in-Some.running.now
    (sym c.running_in.ensures ∙ ap (option_map (λ r. r.now)) c.in-Some.is)
    (sym c.look_under_lock_of.ensures ∙ c.in_default-look_under_lock_of.is)
