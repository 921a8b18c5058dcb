use Rattle.std.proofs.Common.{rules, ◌≡◌, Some, None, refl, sym, ap, subst}
use Rattle.rbd_kinds.specs.declared.id.Instance.{Instance}
use Rattle.rbd_slots.specs.Session.{held_in}
use Rattle.rbd_world.specs.Run.{AfterStop, sent_of}
use Rattle.rbd_world.specs.Step.{DoesAtSites, come}
use Rattle.rbd_world.specs.World.{LateView}
use Rattle.rbd_world.proofs.Polling.{done_there}
use Rattle.rbd_world.proofs.late.come_from.Goals as goal

pub returns-clause-sites : goal.returns-clause-sites
returns-clause-sites c =
    let asks : held_in c.args.slot c.args.late.now.wanted ≡ Some (c.in-Some.site, c.in-Some.op) = search rules in
    let done = c.in_ok-outcome.ensures.done in
    subst (λ w. DoesAtSites (come c.args.sites.now c.args.slot (sent_of c.args.late.now.instance w)) c.args.sites.now c.send.new.sites) (sym asks)
    (subst (λ (who : Instance). DoesAtSites (come c.args.sites.now c.args.slot (sent_of who (Some (c.in-Some.site, c.in-Some.op)))) c.args.sites.now c.send.new.sites) (ap (λ (l : LateView). l.instance) c.late.view_is)
    (done_there c.late.inside.instance (AfterStop c.args.slot) c.in-Some.site c.in-Some.op c.args.sites.now c.send.new.sites None None c.args.history.now.items c.send.new.history.items c.in_ok-outcome.outcome
    done.here.logged done.here.noted done.elsewhere refl).sites)
