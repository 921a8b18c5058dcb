use Rattle.std.proofs.Common.{List, ℕ, Bool, eqb, not, ap, ◌∙◌, rules}
use Rattle.std.proofs.lemmas.Map.Made.{filter_same_pairs}
use Rattle.rbd_flat.specs.declared.effect.Effect.TheVariants as effect
use Rattle.rbd_flat.specs.Flat.{Flat, after}
use Rattle.rbd_flat.proofs.SiteSteps.{name_freed}
use Rattle.rbd_flat.proofs.site.FlatSite.free_name.Goals as goal

pub returns : goal.returns
returns c =
    let ns = c.self.inside.names.entries in
    let ms = c.retain.new.self.entries in
    let others : List ℕ × ℕ → Bool = λ e. not (eqb e.1 c.args.image) in
    name_freed ns ms c.self.inside.images.entries c.self.inside.links.keys c.args.image c.retain.ensures.was_ordered
    (filter_same_pairs _ others _ (λ k v b w f' t. search rules) ns ms c.retain.ensures.filtered)
    ∙ ap (λ (f : Flat). after f (effect.NameFree c.args.image)) c.self.view_is
