use Rattle.std.proofs.Common.{sym, ap, subst, ◌∙◌, arith}
use Rattle.rbd_registry.specs.Directory.{listing_of, is_full, added, IsSoundListing}
use Rattle.rbd_registry.proofs.Listings.{last_below, add_listed, sound_added}
use Rattle.rbd_registry.proofs.directory.Directory.add.Goals as goal

pub overflow_add-drawn : goal.overflow_add-drawn
overflow_add-drawn c =
    let d = listing_of c.self.inside.names.entries c.self.inside.drawn in
    omega (arith, last_below d (ap is_full c.self.view_is ∙ sym c.is_full.ensures ∙ c.if-is_full.false) c.self.invariant.last)

pub invariant_of-self : goal.invariant_of-self
invariant_of-self c =
    let es = c.self.inside.names.entries in
    let n = c.self.inside.drawn in
    subst IsSoundListing (sym (add_listed es c.put.new.names.entries n c.args.name.now c.in-Ok.ensures.ok.0))
    (sound_added (listing_of es n) c.args.name.now c.self.invariant (ap is_full c.self.view_is ∙ sym c.is_full.ensures ∙ c.if-is_full.false))

pub returns-in-Ok-clause-ok : goal.returns-in-Ok-clause-ok
returns-in-Ok-clause-ok c =
    add_listed c.self.inside.names.entries c.put.new.names.entries c.self.inside.drawn c.args.name.now c.in-Ok.ensures.ok.0
    ∙ ap (added c.args.name.now) c.self.view_is

pub returns-in-Ok-clause-sound : goal.returns-in-Ok-clause-sound
returns-in-Ok-clause-sound c =
    let es = c.self.inside.names.entries in
    let n = c.self.inside.drawn in
    subst IsSoundListing (sym (add_listed es c.put.new.names.entries n c.args.name.now c.in-Ok.ensures.ok.0))
    (sound_added (listing_of es n) c.args.name.now c.self.invariant (ap is_full c.self.view_is ∙ sym c.is_full.ensures ∙ c.if-is_full.false))
