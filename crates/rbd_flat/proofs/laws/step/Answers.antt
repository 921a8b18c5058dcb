use Rattle.rbd_flat.proofs.Images.{with_image_at}
use Rattle.rbd_flat.proofs.Steps.{byte_law, size_law, role_law, snap_law}
use Rattle.rbd_flat.proofs.laws.step.Goals as goal

pub returns : goal.returns
returns c = record { bytes = byte_law; sizes = size_law; roles = role_law; snaps = snap_law; images = with_image_at }
