use Rattle.std.proofs.Common.{◌∙◌, ap}
use Rattle.rbd_slots.specs.Session.{held_in}
use Rattle.rbd_slots.proofs.Sound.{all_free, new_sound}
use Rattle.rbd_slots.proofs.session.Session.new.Goals as goal

pub invariant_of-result : goal.invariant_of-result
invariant_of-result g c = new_sound g.R.Machine.stands c.args.instance c.args.home c.in_ok-slots.slots.items c.new.result c.in_ok-slots.ensures c.new.ensures.lines c.new.ensures.used

pub returns-clause-slots : goal.returns-clause-slots
returns-clause-slots g c = λ slot. ap (held_in slot) c.in_ok-slots.ensures ∙ all_free 65 slot

pub returns-clause-sound : goal.returns-clause-sound
returns-clause-sound g c = new_sound g.R.Machine.stands c.args.instance c.args.home c.in_ok-slots.slots.items c.new.result c.in_ok-slots.ensures c.new.ensures.lines c.new.ensures.used
