use Rattle.rbd_stands.proofs.MapSteps.{cover_at_first, cover_after, cover_expired, cover_trimmed}
use Rattle.rbd_stands.proofs.maps.maps_go_on_to_cover.Goals as goal

pub returns-clause-first : goal.returns-clause-first
returns-clause-first c = cover_at_first

pub returns-clause-operation : goal.returns-clause-operation
returns-clause-operation c = cover_after

pub returns-clause-trim : goal.returns-clause-trim
returns-clause-trim c = cover_trimmed

pub returns-clause-expiry : goal.returns-clause-expiry
returns-clause-expiry c = cover_expired
