use Rattle.std.proofs.Common.{List, ℕ, ap, ◌∙◌}
use Rattle.rbd_flat.specs.declared.effect.Effect.TheVariants as effect
use Rattle.rbd_flat.specs.Flat.{Flat, after}
use Rattle.rbd_flat.proofs.SiteSteps.{name_added}
use Rattle.rbd_flat.proofs.site.FlatSite.add_name.Goals as goal

pub returns-clause-ok : goal.returns-clause-ok
returns-clause-ok c =
    let ns = c.self.inside.names.entries in
    let is = c.self.inside.images.entries in
    let ls = c.self.inside.links.keys in
    name_added ns c.insert.new.self.entries is ls c.in_ok-try_clone.field-0 c.args.image c.in_ok-insert.ensures.updates.0
    ∙ ap (λ (f : Flat). after f (effect.Name c.in_ok-try_clone.field-0 c.args.image)) c.self.view_is
    ∙ ap (λ (name : List ℕ). after c.args.self.now (effect.Name name c.args.image)) c.in_ok-try_clone.ensures
