use Rattle.std.proofs.Common.{◌≡◌, eqb, not, length, sym, ap, ◌∙◌, rules, subst}
use Rattle.std.specs.Bool.{OnFalse}
use Rattle.std.specs.List.{filter}
use Rattle.std.specs.Map.{keys_of}
use Rattle.std.specs.List.Sorted.{IsStrictlySortedBy}
use Rattle.std.specs.Prelude.{IsTrue, ◌↔◌}
use Rattle.std.proofs.lemmas.Map.Made.{filter_same_pairs}
use Rattle.rbd_registry.specs.Directory.{Listing, listing_of, name_cmp, id_of, but, freed, holds_id, IsNamed, IsSoundListing}
use Rattle.rbd_registry.proofs.Listings.{stays, free_listed, id_freed, sound_freed, found_freed, held_freed, same_freed}
use Rattle.rbd_registry.proofs.directory.Directory.remove.Goals as goal

pub invariant_of-self : goal.invariant_of-self
invariant_of-self c =
    let es = c.self.inside.names.entries in
    let fs = c.retain.new.self.entries in
    let n = c.self.inside.drawn in
    let same : fs ≡ filter (stays c.args.image) es = filter_same_pairs _ (stays c.args.image) _ (λ k v b w f' t. search rules) es fs c.retain.ensures.filtered in
    subst (λ gs. IsSoundListing (listing_of gs n)) (sym same)
    (sound_freed c.args.image es n c.retain.ensures.was_ordered (subst (λ gs. IsStrictlySortedBy name_cmp (keys_of gs)) same c.retain.ensures.ordered) c.self.invariant)

pub returns : goal.returns
returns c =
    let es = c.self.inside.names.entries in
    let fs = c.retain.new.self.entries in
    let n = c.self.inside.drawn in
    let image = c.args.image in
    let sorted = c.retain.ensures.was_ordered in
    let same : fs ≡ filter (stays image) es = filter_same_pairs _ (stays image) _ (λ k v b w f' t. search rules) es fs c.retain.ensures.filtered in
    let now : listing_of fs n ≡ listing_of (filter (stays image) es) n = ap (λ gs. listing_of gs n) same in
    record {
      found = subst (λ d. IsTrue (not (eqb c.len.result c.len-before.result)) ↔ IsNamed d image) c.self.view_is
          (found_freed image es n sorted c.len.result c.len-before.result (c.len.ensures.len ∙ ap length same) c.len-before.ensures.len);
      held = held_freed image es n sorted c.len.result c.len-before.result (c.len.ensures.len ∙ ap length same) c.len-before.ensures.len
          ∙ ap (holds_id image) c.self.view_is;
      each = λ name. ap (λ (d : Listing). id_of d name) now ∙ id_freed image es n sorted name ∙ ap (λ (d : Listing). but image (id_of d name)) c.self.view_is;
      freed = now ∙ free_listed image es n sorted ∙ ap (freed image) c.self.view_is;
      missing = subst (λ d. OnFalse (not (eqb c.len.result c.len-before.result)) (d ≡ c.args.self.now)) (sym now)
          (subst (λ d. OnFalse (not (eqb c.len.result c.len-before.result)) (listing_of (filter (stays image) es) n ≡ d)) c.self.view_is
          (same_freed image es n sorted c.len.result c.len-before.result (c.len.ensures.len ∙ ap length same) c.len-before.ensures.len));
    }
