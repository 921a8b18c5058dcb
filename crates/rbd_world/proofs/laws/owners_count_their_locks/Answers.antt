use Rattle.std.proofs.Common.{◌∙◌, ap}
use Rattle.rbd_client.specs.Seen.{as_is}
use Rattle.rbd_world.proofs.OwnersCount.{owner_counts, owner_is_fenced}
use Rattle.rbd_world.proofs.OwnersWatch.{owner_of}
use Rattle.rbd_world.proofs.laws.owners_count_their_locks.Goals as goal

pub returns-clause-counts : goal.returns-clause-counts
returns-clause-counts c = λ w sound session client s image is. sound.owns session client is s image

pub returns-clause-owner : goal.returns-clause-owner
returns-clause-owner c = λ homes run s image h who right there owner free. owner_counts homes s image who run right (ap owner_of there ∙ owner) free

pub returns-clause-fenced : goal.returns-clause-fenced
returns-clause-fenced c = λ w session client s image h sound is there owner none. owner_is_fenced as_is w sound session client is s image (ap owner_of there ∙ owner) none
