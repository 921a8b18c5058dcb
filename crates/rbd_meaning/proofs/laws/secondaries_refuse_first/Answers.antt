use Rattle.rbd_meaning.proofs.Meant.{discard_secondary_first, image_secondary_first, remove_secondary_first, resize_secondary_first, rollback_secondary_first, take_secondary_first, write_secondary_first}
use Rattle.rbd_meaning.proofs.laws.secondaries_refuse_first.Goals as goal

pub returns-clause-write : goal.returns-clause-write
returns-clause-write c = λ seat there image at bytes before id h x meant is. write_secondary_first seat.home there image at bytes before id h x meant is

pub returns-clause-fill : goal.returns-clause-fill
returns-clause-fill c = λ seat there image at len byte before id h x meant is. write_secondary_first seat.home there image at _ before id h x meant is

pub returns-clause-taking : goal.returns-clause-taking
returns-clause-taking c = λ seat there image snap before id h x meant is. take_secondary_first seat.home there image snap before id h x meant is

pub returns-clause-removing : goal.returns-clause-removing
returns-clause-removing c = λ seat there image snap before id h x meant is. remove_secondary_first seat.home there image snap before id h x meant is

pub returns-clause-discard : goal.returns-clause-discard
returns-clause-discard c = λ seat there image at len before id h x meant is. discard_secondary_first seat.home there image at len before id h x meant is

pub returns-clause-resize : goal.returns-clause-resize
returns-clause-resize c = λ seat there image to before id h x meant is. resize_secondary_first seat.home there image to before id h x meant is

pub returns-clause-image : goal.returns-clause-image
returns-clause-image c = λ seat there image before id h x meant is. image_secondary_first seat.home there image seat.session before id h x meant is

pub returns-clause-rolling : goal.returns-clause-rolling
returns-clause-rolling c = λ seat there image snap before id h x meant is. rollback_secondary_first seat.home there image snap before id h x meant is
