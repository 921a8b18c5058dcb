use Rattle.rbd_knowledge.proofs.Little.{still_true, still_beside, still_read}
use Rattle.rbd_knowledge.proofs.Onward.{way_lawful}
use Rattle.rbd_knowledge.proofs.laws.waits_change_little.Goals as goal

pub returns-clause-lawful : goal.returns-clause-lawful
returns-clause-lawful c = λ labels known_at lawful_there k plan lawful. way_lawful labels known_at lawful_there plan k lawful

pub returns-clause-truth : goal.returns-clause-truth
returns-clause-truth c = λ site r me k plan t. still_true site r me plan k t

pub returns-clause-reads : goal.returns-clause-reads
returns-clause-reads c = λ site r f k plan was. still_read site r f plan k was

pub returns-clause-beside : goal.returns-clause-beside
returns-clause-beside c = λ site r me you k j plan beside. still_beside site r me you j plan k beside
