use Rattle.rbd_image.proofs.RemovalsMeant.{remove_means, remove_means_without}
use Rattle.rbd_image.proofs.removal_laws.replies_are_meant.Goals as goal

pub returns-clause-found : goal.returns-clause-found
returns-clause-found c = remove_means

pub returns-clause-without : goal.returns-clause-without
returns-clause-without c = remove_means_without
