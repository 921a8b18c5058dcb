use Rattle.rbd_layout.proofs.Listed.{all_places, objects_between, touched_by_bytes}
use Rattle.rbd_layout.proofs.laws.objects_are_told_by_sums.Goals as goal

pub returns-clause-between : goal.returns-clause-between
returns-clause-between c = objects_between

pub returns-clause-touched : goal.returns-clause-touched
returns-clause-touched c = touched_by_bytes

pub returns-clause-all : goal.returns-clause-all
returns-clause-all c = all_places
