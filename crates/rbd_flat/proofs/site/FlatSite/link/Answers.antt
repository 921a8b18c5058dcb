use Rattle.std.proofs.Common.{ap, ◌∙◌}
use Rattle.rbd_flat.specs.declared.effect.Effect.TheVariants as effect
use Rattle.rbd_flat.specs.Flat.{Flat, Link, after}
use Rattle.rbd_flat.proofs.SiteSteps.{link_added}
use Rattle.rbd_flat.proofs.site.FlatSite.link.Goals as goal

pub returns-clause-ok : goal.returns-clause-ok
returns-clause-ok c =
    let link : Link = record { parent = c.args.parent; snap = c.args.snap; child = c.args.child } in
    link_added c.self.inside.names.entries c.self.inside.images.entries c.self.inside.links.keys c.insert.new.self.keys link c.in_ok-insert.ensures.updates.0
    ∙ ap (λ (f : Flat). after f (effect.Link c.args.parent c.args.snap c.args.child)) c.self.view_is
