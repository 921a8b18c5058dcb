use Rattle.std.proofs.Common.{◌≡◌, ◌∙◌, refl, sym, ap}
use Rattle.rbd_client.specs.Client.{newcomer}
use Rattle.rbd_client.proofs.Calls.{newcomer_held, slot_set_sound}
use Rattle.rbd_slots.specs.Session.{held_in, seat_of}
use Rattle.rbd_client.proofs.client.Client.submit.Goals as goal

pub invariant_of-self-2 : goal.invariant_of-self-2
invariant_of-self-2 g c =
    let slot : c.in_ok-slot.slot ≡ c.self.inside.session.lowest = c.in_ok-slot.ensures.slot in
    slot_set_sound g.R.Machine.stands c.in_ok-slot.slot (newcomer c.args.quiescing)
    (record { session = c.self.inside.session; locks = c.self.inside.locks; slots = c.self.inside.slots.items; release = c.self.inside.release; heard = c.self.inside.heard.items })
    (record { session = c.submit.new.self; locks = c.self.inside.locks; slots = c.set_state.new.slots.items; release = c.self.inside.release; heard = c.self.inside.heard.items })
    c.self.invariant c.submit.ensures.sound (λ k differ. c.submit.ensures.others k (λ same. differ (same ∙ sym slot))) c.submit.ensures.lines refl refl c.set_state.ensures.length c.set_state.ensures.here c.set_state.ensures.others
    refl
    (λ none. absurd (newcomer_held g.R.Machine.stands g.R.Request.stands_for g.R.Request.extent_for (seat_of c.self.inside.session) c.args.line c.args.work (held_in c.self.inside.session.lowest c.submit.new.self.slots)
    c.in_ok-slot.ensures.held (sym (ap (λ k. held_in k c.submit.new.self.slots) slot) ∙ none)))

pub returns-clause-sound : goal.returns-clause-sound
returns-clause-sound g c = invariant_of-self-2 g c
