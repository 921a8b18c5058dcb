use Rattle.rbd_catalog.specs.Limits.{limits_are_told}
use Rattle.rbd_catalog.proofs.rows.limits_are_tested.Goals as goal

pub returns : goal.returns
returns c = limits_are_told
