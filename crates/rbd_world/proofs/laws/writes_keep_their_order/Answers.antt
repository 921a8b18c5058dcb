use Rattle.rbd_world.proofs.WritesFirst.{writes_first}
use Rattle.rbd_world.proofs.laws.writes_keep_their_order.Goals as goal

pub returns : goal.returns
returns c = λ w sound who one other s image number first second earlier.
    writes_first sound.told.homes who one other s image number sound.told.run sound.told.right sound.told.order first second earlier
