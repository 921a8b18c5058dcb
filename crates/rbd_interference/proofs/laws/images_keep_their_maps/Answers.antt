use Rattle.rbd_interference.proofs.Maps.{mapped_expired, mapped_stays, mapped_trimmed, none_mapped}
use Rattle.rbd_interference.proofs.laws.images_keep_their_maps.Goals as goal

pub returns-clause-first : goal.returns-clause-first
returns-clause-first c = none_mapped

pub returns-clause-operation : goal.returns-clause-operation
returns-clause-operation c = mapped_stays

pub returns-clause-trim : goal.returns-clause-trim
returns-clause-trim c = mapped_trimmed

pub returns-clause-expiry : goal.returns-clause-expiry
returns-clause-expiry c = mapped_expired
