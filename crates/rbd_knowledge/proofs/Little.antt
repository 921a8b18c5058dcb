-- Waits make nothing known that is false, or that another one may not know beside.
use Rattle.rbd_flat.specs.Flat.{Flat}
use Rattle.rbd_kinds.specs.declared.id.Instance.{Instance}
use Rattle.rbd_kinds.specs.declared.id.SiteId.{SiteId}
use Rattle.rbd_machine.specs.Knowledge.{Knowledge, known_after_wait}
use Rattle.rbd_machine.specs.Plan.{Plan, Ask, Await, Note, Return, Goto}
use Rattle.rbd_interference.specs.Ancestors.{HasReadTruly}
use Rattle.rbd_interference.specs.Beside.{AreBeside}
use Rattle.rbd_interference.specs.Truth.{IsTrueAt}
use Rattle.rbd_interference.proofs.Less.{waits_learned, waits_read}
use Rattle.rbd_interference.proofs.Together.{waited_beside}
use Rattle.rbd_site.specs.Records.{Records}
use Rattle.rbd_knowledge.specs.Knowing.{known_at_operation}

pub still_true : (site : SiteId) (r : Records) (me : Instance) (plan : Plan) (k : Knowledge) → IsTrueAt site r me k → IsTrueAt site r me (known_at_operation k plan)
still_true site r me (Ask there why op next) k t = t
still_true site r me (Await w next) k t = still_true site r me next (known_after_wait k w) (waits_learned site r me k t w)
still_true site r me (Note there image event next) k t = still_true site r me next k t
still_true site r me (Return reply) k t = t
still_true site r me (Goto label) k t = t

pub still_read : (site : SiteId) (r : Records) (f : Flat) (plan : Plan) (k : Knowledge) → HasReadTruly site r f k → HasReadTruly site r f (known_at_operation k plan)
still_read site r f (Ask there why op next) k was = was
still_read site r f (Await w next) k was = still_read site r f next (known_after_wait k w) (waits_read site r f k w was)
still_read site r f (Note there image event next) k was = still_read site r f next k was
still_read site r f (Return reply) k was = was
still_read site r f (Goto label) k was = was

pub still_beside : (site : SiteId) (r : Records) (me you : Instance) (j : Knowledge) (plan : Plan) (k : Knowledge) → AreBeside site r me you k j → AreBeside site r me you (known_at_operation k plan) j
still_beside site r me you j (Ask there why op next) k beside = beside
still_beside site r me you j (Await w next) k beside = still_beside site r me you j next (known_after_wait k w) (waited_beside site r me you k j beside w)
still_beside site r me you j (Note there image event next) k beside = still_beside site r me you j next k beside
still_beside site r me you j (Return reply) k beside = beside
still_beside site r me you j (Goto label) k beside = beside
