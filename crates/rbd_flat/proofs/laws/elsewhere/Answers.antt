use Rattle.rbd_flat.proofs.Steps.{names_stay, links_stay, images_stay, snap_keeps}
use Rattle.rbd_flat.proofs.laws.elsewhere.Goals as goal

pub returns : goal.returns
returns c = record { names = names_stay; links = links_stay; images = images_stay; snaps = snap_keeps }
