use Rattle.std.proofs.Common.{ap, ◌∙◌}
use Rattle.rbd_flat.specs.declared.effect.Effect.TheVariants as effect
use Rattle.rbd_flat.specs.Flat.{Flat, after}
use Rattle.rbd_flat.proofs.SiteSteps.{image_gone}
use Rattle.rbd_flat.proofs.site.FlatSite.remove.Goals as goal

pub returns : goal.returns
returns c =
    image_gone c.self.inside.names.entries c.self.inside.images.entries c.remove.new.self.entries c.self.inside.links.keys c.args.image c.remove.ensures.updates.0
    ∙ ap (λ (f : Flat). after f (effect.Gone c.args.image)) c.self.view_is
