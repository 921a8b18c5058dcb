-- An orderly request stays so.
use Rattle.std.proofs.Common.{ℕ, Bool, true, false, Option, sym, subst}
use Rattle.rbd_machine.specs.Course.{Course, answered, waited, noted}
use Rattle.rbd_machine.specs.Orderly.{IsInLine, IsOrderly, IsOrderlyFrom, MayWait}
use Rattle.rbd_kinds.specs.declared.answer.Answer.{Answer}
use Rattle.rbd_kinds.specs.declared.id.SiteId.{SiteId}
use Rattle.rbd_kinds.specs.declared.journal.JournalEvent.{JournalEvent}
use Rattle.rbd_kinds.specs.declared.layout.Extent.{Extent}
use Rattle.rbd_kinds.specs.declared.operation.Op.{Op}
use Rattle.rbd_machine.specs.Answers.{CanGive}
use Rattle.rbd_machine.specs.Label.{Label}
use Rattle.rbd_machine.specs.Plan.{Plan, Ask, Await, Note, Return, Goto, IsAsking, IsClosed, past_label}
use Rattle.rbd_machine.specs.Wait.{Wait}
use Rattle.rbd_machine.specs.declared.reason.Reason.{Reason}

module _ (e : Option Extent) (at : Label → Course) (labels : Label → Plan)
    (goes : (label : Label) → IsAsking (labels label) → IsOrderly e at true (at label) (labels label) × IsClosed labels (labels label)) where
  -- where it asks, whether it might join a line makes no difference
  asking : (fresh : Bool) (c : Course) (plan : Plan) → IsAsking plan → IsOrderly e at true c plan → IsOrderly e at fresh c plan
  asking fresh c (Ask site why op next) asks orderly = orderly
  asking fresh c (Await wait next) asks orderly = elim asks [ ]
  asking fresh c (Note site image event next) asks orderly = elim asks [ ]
  asking fresh c (Return reply) asks orderly = elim asks [ ]
  asking fresh c (Goto label) asks orderly = elim asks [ ]

  settle : (fresh : Bool) (c : Course) (plan : Plan) → IsOrderly e at fresh c plan → IsClosed labels plan
      → IsOrderlyFrom e fresh c (record { labels = labels; plan = past_label labels plan })
  settle fresh c (Ask site why op next) orderly closed = record { at = at; orderly = orderly; closed = closed; labels = goes }
  settle fresh c (Await wait next) orderly closed = record { at = at; orderly = orderly; closed = closed; labels = goes }
  settle fresh c (Note site image event next) orderly closed = record { at = at; orderly = orderly; closed = closed; labels = goes }
  settle fresh c (Return reply) orderly closed = record { at = at; orderly = orderly; closed = closed; labels = goes }
  settle fresh c (Goto label) orderly closed =
      let there = goes label closed in
      record {
        at = at;
        orderly = asking fresh c (labels label) closed (subst (λ d. IsOrderly e at true d (labels label)) (sym orderly) there.0);
        closed = there.1;
        labels = goes;
      }

pub stays_answered : (e : Option Extent) (fresh : Bool) (c : Course) (labels : Label → Plan) (site : SiteId) (why : Reason) (op : Op) (next : Answer → Plan) (answer : Answer)
    → CanGive op answer → IsOrderlyFrom e fresh c (record { labels = labels; plan = Ask site why op next })
    → IsOrderlyFrom e true (answered e c site op answer) (record { labels = labels; plan = past_label labels (next answer) })
stays_answered e fresh c labels site why op next answer can from =
    settle e from.at labels from.labels true (answered e c site op answer) (next answer) (from.orderly.1 answer can) (from.closed answer)

pub stays_waited : (e : Option Extent) (fresh : Bool) (c : Course) (labels : Label → Plan) (wait : Wait) (next : Plan)
    → IsOrderlyFrom e fresh c (record { labels = labels; plan = Await wait next })
    → MayWait fresh c wait × IsOrderlyFrom e false (waited c wait) (record { labels = labels; plan = past_label labels next })
stays_waited e fresh c labels wait next from =
    (from.orderly.0, settle e from.at labels from.labels false (waited c wait) next from.orderly.1 from.closed)

pub stays_noted : (e : Option Extent) (fresh : Bool) (c : Course) (labels : Label → Plan) (site : SiteId) (image : ℕ) (event : JournalEvent) (next : Plan)
    → IsOrderlyFrom e fresh c (record { labels = labels; plan = Note site image event next })
    → IsInLine site image c.place × IsOrderlyFrom e fresh (noted c) (record { labels = labels; plan = past_label labels next })
stays_noted e fresh c labels site image event next from =
    (from.orderly.0, settle e from.at labels from.labels fresh (noted c) next from.orderly.1 from.closed)
