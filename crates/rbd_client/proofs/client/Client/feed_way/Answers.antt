use Rattle.std.proofs.Common.{◌≡◌, ◌∙◌, Some, None, refl, sym, ap, subst}
use Rattle.std.specs.Option.{is_some, unwrap_or}
use Rattle.rbd_client.specs.declared.actor.Actor.TheVariants as actor
use Rattle.rbd_client.specs.Actor.{actor_at, op_by, op_wanted}
use Rattle.rbd_client.specs.Client.{ClientView, slot_state}
use Rattle.rbd_client.specs.Feeding.{comings_of, state_on_way, CountsAll}
use Rattle.rbd_lock.specs.Acquire.{op_of}
use Rattle.rbd_client.proofs.OnWay.{way_after, way_sound}
use Rattle.rbd_client.proofs.client.Client.feed_way.Goals as goal
use Rattle.rbd_commands.specs.declared.quiescing.Quiescing.TheVariants as quiescing

abbrev before : (g : _) → goal.After-set_state g → ClientView g.row.R.Denot
before g c = record { session = c.self.inside.session; locks = c.self.inside.locks; slots = c.self.inside.slots.items; release = c.self.inside.release; heard = c.self.inside.heard.items }

pub invariant_of-self : goal.invariant_of-self
invariant_of-self g c =
    let acts : actor_at g.R.Machine.stands c.args.slot (before g c) ≡ actor.Way c.args.way = subst (λ v. actor_at g.R.Machine.stands c.args.slot v ≡ actor.Way c.args.way) (sym c.self.view_is) c.requires.actor in
    let wants = ap (op_by g.R.Machine.stands c.args.slot c.self.inside.session) (sym acts) ∙ subst (λ v. op_wanted g.R.Machine.stands c.args.slot v ≡ Some (c.args.site, c.args.op.now)) (sym c.self.view_is) c.requires.op in
    let same : (c.args.way.site, op_of c.args.way) ≡ (c.args.site, c.args.op.now) = ap (λ o. unwrap_or o (c.args.site, c.args.op.now)) wants in
    let state : c.state_of-state.result ≡ slot_state c.args.slot c.self.inside.slots.items = c.state_of-state.ensures ∙ ap (slot_state c.args.slot) c.as_slice.ensures.value in
    let here : slot_state c.args.slot c.set_state.new.slots.items ≡ state_on_way (is_some c.go_on-way.result.1) c.go_on-way.result.0 (slot_state c.args.slot c.self.inside.slots.items) =
    c.set_state.ensures.here ∙ c.on_way-state.ensures ∙ ap (λ b. state_on_way b c.go_on-way.result.0 c.state_of-state.result) c.is_some-2.ensures
    ∙ ap (state_on_way (is_some c.go_on-way.result.1) c.go_on-way.result.0) state in
    let both = way_after c.args.way c.args.fed.now c.go_on-way.result.1 c.go_on-way.result.0 (slot_state c.args.slot c.self.inside.slots.items) (slot_state c.args.slot c.set_state.new.slots.items) here c.go_on-way.ensures in
    way_sound g.R.Machine.stands c.args.slot c.args.way c.args.fed.now c.go_on-way.result.1 (before g c)
    (record { session = c.end_on_way.new.session; locks = c.count.new.locks; slots = c.set_state.new.slots.items; release = c.self.inside.release; heard = c.self.inside.heard.items })
    c.self.invariant c.end_on_way.ensures.sound (c.count.ensures.sound c.self.invariant.locks) acts both.0
    (λ none. c.end_on_way.ensures.stays (c.is_some.ensures ∙ none))
    (λ some runs. (c.end_on_way.ensures.left (c.is_some.ensures ∙ some)).free runs)
    (record { held = c.end_on_way.ensures.others; states = c.set_state.ensures.others; lines = c.end_on_way.ensures.lines })
    c.set_state.ensures.length refl
    (subst (λ x. CountsAll (comings_of quiescing.Leaves None x.0 x.1 c.args.fed.now) c.self.inside.locks c.count.new.locks) (sym same) c.count.ensures.counts)
    both.1
    (λ some r runs. (c.end_on_way.ensures.left (c.is_some.ensures ∙ some)).left r runs)

pub returns-clause-sound : goal.returns-clause-sound
returns-clause-sound g c = invariant_of-self g c
