use Rattle.std.proofs.Common.{◌≡◌, ◌∙◌, Some, refl, sym, ap, subst}
use Rattle.std.specs.Option.{is_some}
use Rattle.rbd_client.specs.declared.actor.Actor.TheVariants as actor
use Rattle.rbd_client.specs.declared.slot_state.SlotState.{SlotState}
use Rattle.rbd_client.specs.Actor.{actor_at}
use Rattle.rbd_client.specs.Client.{ClientView, slot_state}
use Rattle.rbd_client.specs.Feeding.{comings_of, state_behind, CountsAll, IsAtRest, IsReadiedFor, IsReadyBy}
use Rattle.rbd_slots.specs.Session.{op_at, look_under_lock_at}
use Rattle.rbd_client.proofs.Requests.{request_sound}
use Rattle.rbd_client.proofs.client.Client.feed_request.Goals as goal

abbrev before : (g : _) → goal.After-set_state g → ClientView g.row.R.Denot
before g c = record { session = c.self.inside.session; locks = c.self.inside.locks; slots = c.self.inside.slots.items; release = c.self.inside.release; heard = c.self.inside.heard.items }

pub invariant_of-self : goal.invariant_of-self
invariant_of-self g c =
    let state : c.state_of-state.result ≡ slot_state c.args.slot c.self.inside.slots.items = c.state_of-state.ensures ∙ ap (slot_state c.args.slot) c.as_slice.ensures.value in
    let look : c.look_under_lock-look.result ≡ look_under_lock_at g.R.Machine.stands c.args.slot c.self.inside.session = c.look_under_lock-look.ensures.look in
    let acts : actor_at g.R.Machine.stands c.args.slot (before g c) ≡ actor.Request = subst (λ v. actor_at g.R.Machine.stands c.args.slot v ≡ actor.Request) (sym c.self.view_is) c.requires.actor in
    request_sound g.R.Machine.stands g.R.Machine.is_ready c.args.slot c.args.site c.args.op.now c.args.fed.now c.feed-reply.result (before g c)
    (record { session = c.feed-reply.new.self; locks = c.count.new.locks; slots = c.set_state.new.slots.items; release = c.self.inside.release; heard = c.self.inside.heard.items })
    c.self.invariant c.feed-reply.ensures.sound (c.count.ensures.sound c.self.invariant.locks) acts
    (subst (IsReadyBy g.R.Machine.stands g.R.Machine.is_ready c.args.slot c.self.inside.session c.args.fed.now) acts
    (subst (IsReadiedFor g.R.Machine.stands g.R.Machine.is_ready c.args.slot c.args.fed.now) (sym c.self.view_is) c.requires.ready).ready)
    (subst (λ (v : ClientView _). op_at g.R.Machine.stands c.args.slot v.session ≡ Some (c.args.site, c.args.op.now)) (sym c.self.view_is) c.requires.op)
    c.feed-reply.ensures.fed
    (record { held = c.feed-reply.ensures.slots; states = c.set_state.ensures.others; lines = c.feed-reply.ensures.others })
    c.set_state.ensures.length refl
    (subst (λ (s : SlotState). CountsAll (comings_of s.quiescing (look_under_lock_at g.R.Machine.stands c.args.slot c.self.inside.session) c.args.site c.args.op.now c.args.fed.now) c.self.inside.locks c.count.new.locks) state
    (subst (λ l. CountsAll (comings_of c.state_of-state.result.quiescing l c.args.site c.args.op.now c.args.fed.now) c.self.inside.locks c.count.new.locks) look c.count.ensures.counts))
    (subst (IsAtRest c.args.site c.args.op.now) (sym c.self.view_is) c.requires.rest)
    (c.set_state.ensures.here ∙ c.behind-state.ensures
    ∙ ap (λ b. state_behind b c.is_some-2.result c.state_of-state.result) c.is_some.ensures
    ∙ ap (λ b. state_behind (is_some c.feed-reply.result) b c.state_of-state.result) (c.is_some-2.ensures ∙ ap is_some look)
    ∙ ap (state_behind (is_some c.feed-reply.result) (is_some (look_under_lock_at g.R.Machine.stands c.args.slot c.self.inside.session))) state)

pub returns-clause-sound : goal.returns-clause-sound
returns-clause-sound g c = invariant_of-self g c
