use Rattle.rbd_session.proofs.Stands.{stands, owned_past_drop, owned_before_drop, drop_is_second}
use Rattle.rbd_session.proofs.laws.closes_count_as_released.Goals as goal

pub returns-clause-dropped : goal.returns-clause-dropped
returns-clause-dropped c = λ site name owned feds before after image a last walk. owned_past_drop site name owned before after image a (stands site name feds _ last walk)

pub returns-clause-found : goal.returns-clause-found
returns-clause-found c = λ site name owned feds first last walk. owned_before_drop site name owned first (stands site name feds _ last walk)

pub returns-clause-second : goal.returns-clause-second
returns-clause-second c = λ site name feds first second more last walk. drop_is_second site name first second more (stands site name feds _ last walk)
