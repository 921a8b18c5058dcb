use Rattle.std.proofs.Common.{◌∙◌, ap}
use Rattle.rbd_world.proofs.OwnersKeep.{kept_was_watched, owner_keeps, owner_watches, takes_watched}
use Rattle.rbd_world.proofs.OwnersWatch.{owner_of}
use Rattle.rbd_world.proofs.Runs.{done_of}
use Rattle.rbd_world.proofs.Unowned.{unwatches_unowned}
use Rattle.rbd_world.proofs.laws.an_owner_watches_its_image.Goals as goal

pub returns-clause-takes : goal.returns-clause-takes
returns-clause-takes c = λ homes o reply run image right takes. takes_watched homes o run right.2 (done_of homes o reply run right.1) image takes

pub returns-clause-watched : goal.returns-clause-watched
returns-clause-watched c = λ homes run s image h who right there owner. kept_was_watched who s image run (owner_keeps homes s image who run right (ap owner_of there ∙ owner))

pub returns-clause-watches : goal.returns-clause-watches
returns-clause-watches c = λ homes run s image h who right there owner. owner_watches homes s image who run right h there owner

pub returns-clause-unwatches : goal.returns-clause-unwatches
returns-clause-unwatches c = λ homes o reply run image h right ends there owner. unwatches_unowned homes o reply run image right ends (ap owner_of there ∙ owner)
