use Rattle.rbd_interference.proofs.AncestorsKept.{absence_told_true, bytes_told_true, told_by_more, told_learned}
use Rattle.rbd_interference.proofs.Learned.{header_told_true}
use Rattle.rbd_interference.proofs.laws.what_is_told_is_true.Goals as goal

pub returns-clause-header : goal.returns-clause-header
returns-clause-header c = λ site r f me image h seen stands answered was. header_told_true site r f me stands image h seen answered was

pub returns-clause-bytes : goal.returns-clause-bytes
returns-clause-bytes c = λ site r f me image snap number parts bytes seen told stands answered are was. bytes_told_true site r f me stands image snap number parts bytes seen told answered are was

pub returns-clause-absence : goal.returns-clause-absence
returns-clause-absence c = λ site r f me image snap number parts seen told stands answered are was. absence_told_true site r f me stands image snap number parts seen told answered are was

pub returns-clause-more : goal.returns-clause-more
returns-clause-more c = told_by_more

pub returns-clause-kept : goal.returns-clause-kept
returns-clause-kept c = told_learned
