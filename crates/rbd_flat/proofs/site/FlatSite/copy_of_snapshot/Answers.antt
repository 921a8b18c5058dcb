use Rattle.std.proofs.Common.{None, Some, ap, ◌∙◌}
use Rattle.std.specs.FinMap as finmap
use Rattle.rbd_flat.specs.Flat.{Flat, FlatImage, cloned}
use Rattle.rbd_flat.proofs.SiteSteps.{image_given, snap_there}
use Rattle.rbd_flat.proofs.site.FlatSite.copy_of_snapshot.Goals as goal

pub returns-in_default-clause-ok : goal.returns-in_default-clause-ok
returns-in_default-clause-ok c =
    let is = c.self.inside.images.entries in
    ap (λ o. cloned o c.args.image c.args.self.now)
    (snap_there c.self.inside.names.entries is is c.self.inside.links.keys c.args.parent c.args.snap None c.in_default.ensures.value c.args.self.now c.self.view_is)

pub returns-in_default-snapshot-clause-ok : goal.returns-in_default-snapshot-clause-ok
returns-in_default-snapshot-clause-ok c =
    let is = c.self.inside.images.entries in
    ap (λ o. cloned o c.args.image c.args.self.now)
    (c.in_default-snapshot.ensures
    ∙ snap_there c.self.inside.names.entries is is c.self.inside.links.keys c.args.parent c.args.snap (Some c.in-Some.found.now) c.in-Some.ensures.value c.args.self.now c.self.view_is)

pub returns-clause-ok : goal.returns-clause-ok
returns-clause-ok c =
    let is = c.self.inside.images.entries in
    image_given c.self.inside.names.entries is c.insert.new.self.entries c.self.inside.links.keys c.args.image c.in_ok-made.made c.in_ok-insert.ensures.updates.0
    ∙ ap (λ (f : Flat). record f { images = finmap.insert f.images c.args.image c.in_ok-made.made }) c.self.view_is
    ∙ ap (λ (i : FlatImage). record c.args.self.now { images = finmap.insert c.args.self.now.images c.args.image i }) c.in_ok-made.ensures
    ∙ ap (λ o. cloned o c.args.image c.args.self.now)
    (c.in-Some-snapshot.ensures
    ∙ snap_there c.self.inside.names.entries is is c.self.inside.links.keys c.args.parent c.args.snap (Some c.in-Some.found.now) c.in-Some.ensures.value c.args.self.now c.self.view_is)
