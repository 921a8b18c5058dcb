use Rattle.rbd_layout.proofs.Derived.{pieces_cover, in_one_piece}
use Rattle.rbd_layout.proofs.Unique.{pieces_once}
use Rattle.rbd_layout.proofs.laws.pieces_are_the_bytes.Goals as goal

pub returns-clause-cover : goal.returns-clause-cover
returns-clause-cover c = pieces_cover

pub returns-clause-once : goal.returns-clause-once
returns-clause-once c = in_one_piece

pub returns-clause-one_list : goal.returns-clause-one_list
returns-clause-one_list c = pieces_once
