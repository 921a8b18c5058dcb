use Rattle.rbd_pages.proofs.GrownLemmas.{most_left, most_of_all}
use Rattle.rbd_pages.proofs.laws.places_are_the_most_named.Goals as goal

pub returns-clause-most : goal.returns-clause-most
returns-clause-most c = most_of_all

pub returns-clause-left : goal.returns-clause-left
returns-clause-left c = most_left
