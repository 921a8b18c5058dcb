use Rattle.std.proofs.Common.{eqb}
use Rattle.std.specs.Prelude.{not, ◌&&◌}
use Rattle.rbd_generate.proofs.FourTurns.{by_number, counted}
use Rattle.rbd_generate.specs.Laws.{discards, fills, reads}
use Rattle.rbd_generate.proofs.laws.of_four_commands_two_fill.Goals as goal

pub returns-clause-reads : goal.returns-clause-reads
returns-clause-reads c = counted reads (λ r. eqb r 1) (λ number image. (by_number number image).0)

pub returns-clause-discards : goal.returns-clause-discards
returns-clause-discards c = counted discards (λ r. not (eqb r 1) && eqb r 2) (λ number image. (by_number number image).1.0)

pub returns-clause-fills : goal.returns-clause-fills
returns-clause-fills c = counted fills (λ r. not (eqb r 1) && not (eqb r 2)) (λ number image. (by_number number image).1.1)
