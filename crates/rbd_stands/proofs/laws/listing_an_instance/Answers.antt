use Rattle.rbd_stands.proofs.StoreSteps.{listed_stands}
use Rattle.rbd_stands.proofs.laws.listing_an_instance.Goals as goal

pub returns : goal.returns
returns c = listed_stands
