use Rattle.rbd_layout.proofs.Derived.{parts_cover, parts_ascend, in_one_part}
use Rattle.rbd_layout.proofs.Unique.{parts_alike}
use Rattle.rbd_layout.proofs.laws.parts_are_the_bytes.Goals as goal

pub returns-clause-cover : goal.returns-clause-cover
returns-clause-cover c = parts_cover

pub returns-clause-ascend : goal.returns-clause-ascend
returns-clause-ascend c = parts_ascend

pub returns-clause-once : goal.returns-clause-once
returns-clause-once c = in_one_part

pub returns-clause-one_list : goal.returns-clause-one_list
returns-clause-one_list c = parts_alike
