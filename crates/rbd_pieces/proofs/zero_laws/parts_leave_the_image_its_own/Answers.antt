use Rattle.rbd_pieces.proofs.Resized.{resized_owns}
use Rattle.rbd_pieces.proofs.Zeroed.{replaced_own, zeroed_own}
use Rattle.rbd_pieces.proofs.zero_laws.parts_leave_the_image_its_own.Goals as goal

pub returns-clause-zero : goal.returns-clause-zero
returns-clause-zero c = λ k site image sharing h own p steps owns is. zeroed_own site image h own sharing p k steps is owns

pub returns-clause-full : goal.returns-clause-full
returns-clause-full c = λ k site image sharing h own p bytes steps owns is. replaced_own site image h own sharing p bytes k steps is owns

pub returns-clause-size : goal.returns-clause-size
returns-clause-size c = λ k site image h to objects steps owns are. resized_owns site image h to k objects steps owns are
