use Rattle.rbd_knowledge.proofs.Others.{expiries_leave_it_true, others_leave_it_true, trims_leave_it_true}
use Rattle.rbd_knowledge.proofs.client_laws.others_leave_clients_true.Goals as goal

pub returns-clause-operation : goal.returns-clause-operation
returns-clause-operation g c = λ client knows site r me you j o t differ known by_lock permits beside may. others_leave_it_true site r me knows client t you j o differ known by_lock permits beside may

pub returns-clause-trim : goal.returns-clause-trim
returns-clause-trim g c = λ client knows site r me image number t. trims_leave_it_true site r me knows client t image number

pub returns-clause-expiry : goal.returns-clause-expiry
returns-clause-expiry g c = λ client knows site r me i image t. expiries_leave_it_true site r me knows client t image i
