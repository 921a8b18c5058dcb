use Rattle.std.proofs.Common.{refl, None}
use Rattle.rbd_client.proofs.Calls.{new_sound}
use Rattle.rbd_client.proofs.client.Client.new.Goals as goal

pub invariant_of-result : goal.invariant_of-result
invariant_of-result g c =
    new_sound g.R.Machine.stands (record { session = c.in_ok-session.session; locks = c.new-2.result; slots = c.in_ok-slots.slots.items; release = None; heard = c.new-3.result.items })
    c.in_ok-session.ensures.sound c.new-2.ensures.sound c.in_ok-session.ensures.lines c.in_ok-slots.ensures refl

pub returns-clause-sound : goal.returns-clause-sound
returns-clause-sound g c = invariant_of-result g c
