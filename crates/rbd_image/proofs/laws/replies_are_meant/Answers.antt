use Rattle.rbd_image.proofs.Meant.{create_means, listing_means}
use Rattle.rbd_image.proofs.laws.replies_are_meant.Goals as goal

pub returns-clause-create : goal.returns-clause-create
returns-clause-create c = create_means

pub returns-clause-listing : goal.returns-clause-listing
returns-clause-listing c = listing_means
