use Rattle.rbd_generate.proofs.SizeLemmas.{all_inside}
use Rattle.rbd_generate.proofs.laws.commands_stay_inside.Goals as goal

pub returns : goal.returns
returns c = all_inside
