use Rattle.std.proofs.Common.{sym, subst}
use Rattle.rbd_registry.specs.Directory.{listing_of, IsSoundListing}
use Rattle.rbd_registry.proofs.Listings.{sound_new}
use Rattle.rbd_registry.proofs.directory.Directory.new.Goals as goal

pub invariant_of-result : goal.invariant_of-result
invariant_of-result c = subst (λ es. IsSoundListing (listing_of es 0)) (sym c.new.ensures.empty) sound_new
