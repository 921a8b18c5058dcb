use Rattle.rbd_lock.proofs.Lasting.{others_stay}
use Rattle.rbd_lock.proofs.laws.other_images_stay.Goals as goal

pub returns : goal.returns
returns c = λ site image s comings. others_stay site image comings s
