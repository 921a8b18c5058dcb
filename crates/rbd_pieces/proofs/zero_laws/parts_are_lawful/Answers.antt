use Rattle.rbd_pieces.proofs.ZerosLawful.{lawful_full, lawful_zero}
use Rattle.rbd_pieces.proofs.Resized.{lawful_resize}
use Rattle.rbd_pieces.proofs.zero_laws.parts_are_lawful.Goals as goal

pub returns-clause-zero : goal.returns-clause-zero
returns-clause-zero c = lawful_zero

pub returns-clause-full : goal.returns-clause-full
returns-clause-full c = λ at k site image h p bytes next own layout is whole few lawful. lawful_full at k site image h p bytes next own layout is whole few lawful

pub returns-clause-size : goal.returns-clause-size
returns-clause-size c = λ at k site image h to objects next owns layout few counted lawful. lawful_resize site image h to at k objects next layout owns few counted lawful
