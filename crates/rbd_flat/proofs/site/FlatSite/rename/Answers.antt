use Rattle.std.proofs.Common.{List, ℕ, ap, ◌∙◌, sym}
use Rattle.rbd_flat.specs.declared.effect.Effect.TheVariants as effect
use Rattle.rbd_flat.specs.Flat.{Flat, after, id_of}
use Rattle.rbd_flat.proofs.SiteSteps.{name_same, name_moved, names_differ, names_agree}
use Rattle.rbd_flat.proofs.site.FlatSite.rename.Goals as goal

pub returns-then-ne-clause-ok : goal.returns-then-ne-clause-ok
returns-then-ne-clause-ok c =
    let from = c.args.from.now in
    let key = c.in_ok-try_clone.field-0 in
    name_moved c.self.inside.names.entries c.insert.new.self.entries c.self.inside.images.entries c.self.inside.links.keys c.remove.new.self.entries from key c.in-Some.image
    (ap (λ (f : Flat). id_of f from) c.self.view_is ∙ sym c.in-Some.ensures)
    (λ e. names_differ from c.args.to.now c.if-ne.ensures (e ∙ c.in_ok-try_clone.ensures))
    c.in_ok-insert.ensures.updates.0 c.remove.ensures.updates.0
    ∙ ap (λ (f : Flat). after f (effect.Rename from key)) c.self.view_is
    ∙ ap (λ (name : List ℕ). after c.args.self.now (effect.Rename from name)) c.in_ok-try_clone.ensures

pub returns-else-ne-clause-ok : goal.returns-else-ne-clause-ok
returns-else-ne-clause-ok c =
    let from = c.args.from.now in
    let key = c.in_ok-try_clone.field-0 in
    name_same c.self.inside.names.entries c.insert.new.self.entries c.self.inside.images.entries c.self.inside.links.keys from key c.in-Some.image
    (ap (λ (f : Flat). id_of f from) c.self.view_is ∙ sym c.in-Some.ensures)
    (names_agree from c.args.to.now c.if-ne.ensures ∙ sym c.in_ok-try_clone.ensures)
    c.in_ok-insert.ensures.updates.0
    ∙ ap (λ (f : Flat). after f (effect.Rename from key)) c.self.view_is
    ∙ ap (λ (name : List ℕ). after c.args.self.now (effect.Rename from name)) c.in_ok-try_clone.ensures
