use Rattle.rbd_interference.proofs.Effects.{has_its_effect}
use Rattle.rbd_interference.proofs.laws.what_is_permitted_has_its_effect.Goals as goal

pub returns : goal.returns
returns c = λ site r f k me o most stands form standalone mapped t permits. has_its_effect site r f k me most stands form standalone mapped t o permits
