use Rattle.rbd_interference.proofs.AncestorsKept.{reads_elsewhere}
use Rattle.rbd_interference.proofs.Elsewhere.{true_elsewhere, beside_elsewhere}
use Rattle.rbd_interference.proofs.laws.sites_are_known_apart.Goals as goal

pub returns-clause-truth : goal.returns-clause-truth
returns-clause-truth c = λ s t r me k o a differ holds. true_elsewhere s t differ r me k o a holds

pub returns-clause-reads : goal.returns-clause-reads
returns-clause-reads c = λ s t r f k o a differ was. reads_elsewhere s t differ r f k o a was

pub returns-clause-beside : goal.returns-clause-beside
returns-clause-beside c = λ s t r me you k j o a differ beside. beside_elsewhere s t differ r me you k j o a beside
