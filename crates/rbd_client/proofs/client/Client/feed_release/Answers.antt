use Rattle.std.proofs.Common.{◌≡◌, ◌∙◌, Some, None, refl, sym, ap, subst}
use Rattle.std.specs.Option.{unwrap_or}
use Rattle.rbd_client.specs.declared.actor.Actor.TheVariants as actor
use Rattle.rbd_client.specs.Actor.{actor_at, op_by, op_wanted}
use Rattle.rbd_client.specs.Client.{ClientView}
use Rattle.rbd_client.specs.Feeding.{comings_of, CountsAll}
use Rattle.rbd_lock.specs.Release.{release_op}
use Rattle.rbd_client.proofs.OnWay.{release_sound}
use Rattle.rbd_client.proofs.client.Client.feed_release.Goals as goal
use Rattle.rbd_commands.specs.declared.quiescing.Quiescing.TheVariants as quiescing

abbrev before : (g : _) → goal.After-self-1 g → ClientView g.row.R.Denot
before g c = record { session = c.self.inside.session; locks = c.self.inside.locks; slots = c.self.inside.slots.items; release = c.self.inside.release; heard = c.self.inside.heard.items }

pub invariant_of-self : goal.invariant_of-self
invariant_of-self g c =
    let acts : actor_at g.R.Machine.stands 0 (before g c) ≡ actor.Release c.args.release = subst (λ v. actor_at g.R.Machine.stands 0 v ≡ actor.Release c.args.release) (sym c.self.view_is) c.requires.actor in
    let wants = ap (op_by g.R.Machine.stands 0 c.self.inside.session) (sym acts) ∙ subst (λ v. op_wanted g.R.Machine.stands 0 v ≡ Some (c.args.site, c.args.op.now)) (sym c.self.view_is) c.requires.op in
    let same : (c.args.release.site, release_op c.args.release) ≡ (c.args.site, c.args.op.now) = ap (λ o. unwrap_or o (c.args.site, c.args.op.now)) wants in
    release_sound g.R.Machine.stands c.args.release c.args.fed.now (before g c)
    (record { session = c.self.inside.session; locks = c.count.new.locks; slots = c.self.inside.slots.items; release = c.let_go-self-inside.result; heard = c.self.inside.heard.items })
    c.self.invariant c.self.invariant.session (c.count.ensures.sound c.self.invariant.locks) acts refl refl c.let_go-self-inside.ensures
    (subst (λ x. CountsAll (comings_of quiescing.Leaves None x.0 x.1 c.args.fed.now) c.self.inside.locks c.count.new.locks) (sym same) c.count.ensures.counts)

pub returns-clause-sound : goal.returns-clause-sound
returns-clause-sound g c = invariant_of-self g c
