use Rattle.rbd_knowledge.proofs.Calls.{heard_is_true, new_client_is_true, readied_is_true, submitted_is_true}
use Rattle.rbd_knowledge.proofs.client_laws.calls_leave_clients_true.Goals as goal

pub returns-clause-new : goal.returns-clause-new
returns-clause-new g c = λ client site r me sound none locks. new_client_is_true site r me g.R.Machine.stands client sound none locks

pub returns-clause-submitted : goal.returns-clause-submitted
returns-clause-submitted g c = λ old new knows site r me slot q t state others locks. submitted_is_true site r me knows old new t slot q state others locks

pub returns-clause-readied : goal.returns-clause-readied
returns-clause-readied g c = λ old new knows site r me t slots locks. readied_is_true site r me knows old new t slots locks

pub returns-clause-heard : goal.returns-clause-heard
returns-clause-heard g c = λ old new knows site r me n t slots locks. heard_is_true site r me knows old new t n slots locks
