use Rattle.std.proofs.Common.{ap, ◌∙◌}
use Rattle.std.specs.FinMap as finmap
use Rattle.rbd_flat.specs.Flat.{Flat, FlatImage}
use Rattle.rbd_flat.proofs.SiteSteps.{image_given}
use Rattle.rbd_flat.proofs.site.FlatSite.create.Goals as goal

pub returns-clause-ok : goal.returns-clause-ok
returns-clause-ok c =
    image_given c.self.inside.names.entries c.self.inside.images.entries c.insert.new.self.entries c.self.inside.links.keys c.args.image c.in_ok-made.made c.in_ok-insert.ensures.updates.0
    ∙ ap (λ (f : Flat). record f { images = finmap.insert f.images c.args.image c.in_ok-made.made }) c.self.view_is
    ∙ ap (λ (i : FlatImage). record c.args.self.now { images = finmap.insert c.args.self.now.images c.args.image i }) c.in_ok-made.ensures
