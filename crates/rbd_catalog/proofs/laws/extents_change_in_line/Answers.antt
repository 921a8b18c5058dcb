use Rattle.rbd_catalog.proofs.InLine.{changes_in_line}
use Rattle.rbd_catalog.proofs.laws.extents_change_in_line.Goals as goal

pub returns : goal.returns
returns c = changes_in_line
