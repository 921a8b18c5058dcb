use Rattle.std.proofs.Common.{ap, ◌∙◌}
use Rattle.rbd_flat.specs.declared.effect.Effect.TheVariants as effect
use Rattle.rbd_flat.specs.Flat.{Flat, Link, after}
use Rattle.rbd_flat.proofs.SiteSteps.{link_dropped}
use Rattle.rbd_flat.proofs.site.FlatSite.unlink.Goals as goal

pub returns : goal.returns
returns c =
    let link : Link = record { parent = c.args.parent; snap = c.args.snap; child = c.args.child } in
    link_dropped c.self.inside.names.entries c.self.inside.images.entries c.self.inside.links.keys c.remove.new.self.keys link c.remove.ensures.updates.0
    ∙ ap (λ (f : Flat). after f (effect.Unlink c.args.parent c.args.snap c.args.child)) c.self.view_is
