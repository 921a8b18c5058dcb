use Rattle.rbd_object.proofs.PagedLemmas.{pages_were_in_use, sheaves_were_in_use}
use Rattle.rbd_object.proofs.laws.places_were_in_use.Goals as goal

pub returns-clause-pages : goal.returns-clause-pages
returns-clause-pages c = pages_were_in_use

pub returns-clause-sheaves : goal.returns-clause-sheaves
returns-clause-sheaves c = sheaves_were_in_use
