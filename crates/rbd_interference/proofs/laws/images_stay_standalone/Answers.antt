use Rattle.rbd_interference.proofs.Standalone.{standalone_stays, told_standalone}
use Rattle.rbd_interference.proofs.laws.images_stay_standalone.Goals as goal

pub returns-clause-told : goal.returns-clause-told
returns-clause-told c = λ r me op standalone given. told_standalone r me standalone op given

pub returns-clause-operation : goal.returns-clause-operation
returns-clause-operation c = standalone_stays
