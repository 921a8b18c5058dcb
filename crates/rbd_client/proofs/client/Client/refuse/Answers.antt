use Rattle.std.proofs.Common.{refl, ap}
use Rattle.rbd_client.specs.declared.slot_state.SlotState.{SlotState}
use Rattle.rbd_client.proofs.Calls.{slot_set_sound}
use Rattle.rbd_client.proofs.client.Client.refuse.Goals as goal

pub invariant_of-self : goal.invariant_of-self
invariant_of-self g c =
    slot_set_sound g.R.Machine.stands c.args.slot c.blank.result
    (record { session = c.self.inside.session; locks = c.self.inside.locks; slots = c.self.inside.slots.items; release = c.self.inside.release; heard = c.self.inside.heard.items })
    (record { session = c.refuse-reply.new.self; locks = c.self.inside.locks; slots = c.set_state.new.slots.items; release = c.self.inside.release; heard = c.self.inside.heard.items })
    c.self.invariant c.refuse-reply.ensures.sound c.refuse-reply.ensures.others c.refuse-reply.ensures.lines refl refl c.set_state.ensures.length c.set_state.ensures.here c.set_state.ensures.others
    (ap (λ (s : SlotState). s.way) c.blank.ensures) (λ none. c.blank.ensures)

pub returns-then-is_some-clause-sound : goal.returns-then-is_some-clause-sound
returns-then-is_some-clause-sound g c = invariant_of-self g c
