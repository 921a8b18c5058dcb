use Rattle.rbd_catalog.proofs.Looks.{looks_refuse}
use Rattle.rbd_catalog.proofs.laws.looks_refuse_what_isnt_there.Goals as goal

pub returns : goal.returns
returns c = looks_refuse
