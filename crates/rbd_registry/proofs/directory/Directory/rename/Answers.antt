use Rattle.std.proofs.Common.{Option, Some, is_some, ℕ, sym, ap, subst, ◌∙◌}
use Rattle.rbd_registry.specs.Directory.{Listing, listing_of, id_of, renamed, IsSoundListing}
use Rattle.rbd_registry.proofs.Listings.{rename_listed, sound_renamed, held_and_free}
use Rattle.rbd_registry.proofs.directory.Directory.rename.Goals as goal

pub invariant_of-self : goal.invariant_of-self
invariant_of-self c =
    let es = c.self.inside.names.entries in
    let n = c.self.inside.drawn in
    let image = c.in-Some.image in
    let free = ap is_some (sym c.find-2.ensures.value) ∙ sym c.is_some.ensures ∙ c.if-is_some.false in
    subst IsSoundListing (sym (rename_listed es c.put.new.names.entries c.remove.new.self.entries n c.args.from.now c.args.to.now image
    (held_and_free c.args.self.now c.args.from.now c.args.to.now image (sym c.in-Some.ensures.value) free) c.in-Ok.ensures.ok.0 c.remove.ensures.updates.0))
    (sound_renamed (listing_of es n) c.args.from.now c.args.to.now image c.self.invariant (ap (λ (d : Listing). id_of d c.args.from.now) c.self.view_is ∙ sym c.in-Some.ensures.value))

pub returns-in-Ok-clause-ok : goal.returns-in-Ok-clause-ok
returns-in-Ok-clause-ok c =
    let image = c.in-Some.image in
    let free = ap is_some (sym c.find-2.ensures.value) ∙ sym c.is_some.ensures ∙ c.if-is_some.false in
    rename_listed c.self.inside.names.entries c.put.new.names.entries c.remove.new.self.entries c.self.inside.drawn c.args.from.now c.args.to.now image
    (held_and_free c.args.self.now c.args.from.now c.args.to.now image (sym c.in-Some.ensures.value) free) c.in-Ok.ensures.ok.0 c.remove.ensures.updates.0
    ∙ ap (renamed (Some image) c.args.from.now c.args.to.now) c.self.view_is
    ∙ ap (λ (o : Option ℕ). renamed o c.args.from.now c.args.to.now c.args.self.now) c.in-Some.ensures.value
