use Rattle.std.proofs.Common.{◌≡◌, ◌∙◌, refl, sym, ap, subst}
use Rattle.rbd_client.specs.declared.actor.Actor.TheVariants as actor
use Rattle.rbd_client.specs.Actor.{actor_at}
use Rattle.rbd_client.specs.Client.{ClientView}
use Rattle.rbd_client.specs.Feeding.{CanGet, IsClientAlike}
use Rattle.rbd_slots.specs.Session.{held_in}
use Rattle.rbd_slots.proofs.Readied.{alike_itself}
use Rattle.rbd_client.proofs.Alike.{ready_then, ready_without, sound_alike, stays_where_same}
use Rattle.rbd_client.proofs.client.Client.ready.Goals as goal

abbrev before : (g : _) → goal.After-ready g → ClientView g.row.R.Denot
before g c = record { session = c.self.inside.session; locks = c.self.inside.locks; slots = c.self.inside.slots.items; release = c.self.inside.release; heard = c.self.inside.heard.items }

abbrev after : (g : _) → goal.After-ready g → ClientView g.row.R.Denot
after g c = record { session = c.ready.new.self; locks = c.reserve.new.self; slots = c.self.inside.slots.items; release = c.self.inside.release; heard = c.self.inside.heard.items }

alike : (g : _) (c : goal.After-ready g) → IsClientAlike g.R.Machine.stands (before g c) (after g c)
alike g c = record { session = c.ready.ensures.alike; locks = c.reserve.ensures.states; asked = c.reserve.ensures.asked; slots = refl; release = refl; heard = refl }

acts : (g : _) (c : goal.After-ready g) → actor_at g.R.Machine.stands c.args.slot (before g c) ≡ actor.Request
acts g c = ap (actor_at g.R.Machine.stands c.args.slot) c.self.view_is ∙ sym c.requires.actor ∙ c.in-Request.is

pub invariant_of-self-in-Request : goal.invariant_of-self-in-Request
invariant_of-self-in-Request g c = sound_alike g.R.Machine.stands (before g c) (after g c) c.self.invariant c.ready.ensures.sound c.reserve.ensures.sound (alike g c)

pub returns-in-Request-clause-ready : goal.returns-in-Request-clause-ready
returns-in-Request-clause-ready g c =
    ready_then g.R.Machine.stands g.R.Machine.is_ready c.args.slot c.args.fed.now (before g c) (after g c) (alike g c) (acts g c) c.in_ok-reserve.ensures.room c.ready.result c.ready.ensures.ready

pub returns-in-Request-clause-sound : goal.returns-in-Request-clause-sound
returns-in-Request-clause-sound g c = invariant_of-self-in-Request g c

abbrev was : (g : _) → goal.In_default g → ClientView g.row.R.Denot
was g c = record { session = c.self.inside.session; locks = c.self.inside.locks; slots = c.self.inside.slots.items; release = c.self.inside.release; heard = c.self.inside.heard.items }

abbrev then : (g : _) → goal.In_default g → ClientView g.row.R.Denot
then g c = record { session = c.self.inside.session; locks = c.reserve.new.self; slots = c.self.inside.slots.items; release = c.self.inside.release; heard = c.self.inside.heard.items }

alike_then : (g : _) (c : goal.In_default g) → IsClientAlike g.R.Machine.stands (was g c) (then g c)
alike_then g c = record { session = alike_itself g.R.Machine.stands c.self.inside.session; locks = c.reserve.ensures.states; asked = c.reserve.ensures.asked; slots = refl; release = refl; heard = refl }

pub returns : goal.returns
returns g c = record {
  alike = subst (λ v. IsClientAlike g.R.Machine.stands v (then g c)) c.self.view_is (alike_then g c);
  others = λ other differ. ap (λ (v : ClientView _). held_in other v.session.slots) c.self.view_is;
  ready =
      ready_without g.R.Machine.stands g.R.Machine.is_ready c.args.slot c.args.fed.now (was g c) (then g c) (alike_then g c) c.in_ok-reserve.ensures.room c.args.actor.now
      (ap (actor_at g.R.Machine.stands c.args.slot) c.self.view_is ∙ sym c.requires.actor) c.in_default.not-Request
      (subst (CanGet g.R.Machine.stands c.args.slot c.self.inside.session c.args.fed.now) (sym c.requires.actor)
      (subst (λ (v : ClientView _). CanGet g.R.Machine.stands c.args.slot v.session c.args.fed.now (actor_at g.R.Machine.stands c.args.slot c.args.self.now)) (sym c.self.view_is) c.requires.can));
  stays =
      stays_where_same (actor_at g.R.Machine.stands c.args.slot c.args.self.now) c.args.self.now.session c.self.inside.session (ap (λ (v : ClientView _). v.session) c.self.view_is);
  sound = sound_alike g.R.Machine.stands (was g c) (then g c) c.self.invariant c.self.invariant.session c.reserve.ensures.sound (alike_then g c);
}

pub returns-in_err-reserve-clause-stays : goal.returns-in_err-reserve-clause-stays
returns-in_err-reserve-clause-stays g c =
    stays_where_same (actor_at g.R.Machine.stands c.args.slot c.args.self.now) c.args.self.now.session c.self.inside.session (ap (λ (v : ClientView _). v.session) c.self.view_is)
