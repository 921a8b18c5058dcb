-- A request that wants an operation and may go on: what a poll of it is, and what it can be fed.
use Rattle.std.proofs.Common.{◌≡◌, ℕ, cond, Bool, true, false, Option, Some, None, refl, sym, ap, ◌∙◌, subst}
use Rattle.std.proofs.lemmas.Option.{none-some, same_Some}
use Rattle.rbd_kinds.specs.declared.answer.Answer.{Answer}
use Rattle.rbd_kinds.specs.declared.id.SiteId.{SiteId}
use Rattle.rbd_kinds.specs.declared.machine.Fed.TheVariants as fed
use Rattle.rbd_kinds.specs.declared.operation.Op.{Op}
use Rattle.rbd_machine.specs.Answers.{CanBeFed, CanGive}
use Rattle.rbd_machine.specs.Plan.{Plan, Ask, Await, Note, Return, Goto, Standing}
use Rattle.rbd_machine.specs.declared.reason.Reason.{Reason}
use Rattle.rbd_slots.specs.declared.running.Occupant.{Occupant}
use Rattle.rbd_slots.specs.declared.running.Occupant.TheVariants as occupant
use Rattle.rbd_slots.specs.declared.running.Running.{Running}
use Rattle.rbd_slots.specs.Advance.{track_of}
use Rattle.rbd_slots.specs.Lines.{LinesView}
use Rattle.rbd_slots.specs.Session.{SessionView, IsAnswered, OfRunning, going_in, held_in, of_going, op_asked, op_at}
use Rattle.rbd_slots.specs.Waits.{waits}

module _ {R : Type 0} (stands : R → Standing) where
  pub record Wants (slot : ℕ) (lines : LinesView) (site : SiteId) (o : Op) (held : Option (Occupant R)) : Type 0 where
    pub request : Running R
    pub is : held ≡ Some (occupant.Running request)
    pub goes : waits slot (track_of request lines) ≡ false
    pub why : Reason
    pub next : Answer → Plan
    pub plan : (stands request.request).plan ≡ Ask site why o next

  asks_for : (slot : ℕ) (lines : LinesView) (site : SiteId) (o : Op) (r : Running R) (plan : Plan) → (stands r.request).plan ≡ plan → waits slot (track_of r lines) ≡ false
      → op_asked plan ≡ Some (site, o) → Wants slot lines site o (Some (occupant.Running r))
  asks_for slot lines site o r (Ask there why op next) plan goes is =
      let same = same_Some (there, op) (site, o) is in
      record {
        request = r;
        is = refl;
        goes = goes;
        why = why;
        next = next;
        plan = plan ∙ ap (λ (p : SiteId × Op). Ask p.0 why p.1 next) same;
      }
  asks_for slot lines site o r (Await w next) plan goes is = absurd (none-some (site, o) is)
  asks_for slot lines site o r (Note there image event next) plan goes is = absurd (none-some (site, o) is)
  asks_for slot lines site o r (Return reply) plan goes is = absurd (none-some (site, o) is)
  asks_for slot lines site o r (Goto label) plan goes is = absurd (none-some (site, o) is)

  pub wants : (slot : ℕ) (lines : LinesView) (site : SiteId) (o : Op) (held : Option (Occupant R)) → of_going stands op_asked (going_in slot held lines) ≡ Some (site, o)
      → Wants slot lines site o held
  wants slot lines site o None is = absurd (none-some (site, o) is)
  wants slot lines site o (Some (occupant.Refused line refusal)) is = absurd (none-some (site, o) is)
  wants slot lines site o (Some (occupant.Running r)) is = by (waits slot (track_of r lines)) refl is
    where
      by : (b : Bool) → waits slot (track_of r lines) ≡ b → of_going stands op_asked (cond b None (Some r)) ≡ Some (site, o) → Wants slot lines site o (Some (occupant.Running r))
      by true w is = absurd (none-some (site, o) is)
      by false w is = asks_for slot lines site o r (stands r.request).plan refl w is

  -- it can be fed an answer that the operation can give
  pub can_be_fed : (slot : ℕ) (s : SessionView R) (site : SiteId) (o : Op) (a : Answer) → op_at stands slot s ≡ Some (site, o) → CanGive o a
      → OfRunning (IsAnswered stands slot s.lines (fed.Answer a)) (held_in slot s.slots)
  can_be_fed slot s site o a is gives =
      let w = wants slot s.lines site o (held_in slot s.slots) is in
      subst (OfRunning (IsAnswered stands slot s.lines (fed.Answer a))) (sym w.is) (record {
        goes = w.goes;
        can = subst (λ p. CanBeFed p (fed.Answer a)) (sym w.plan) gives;
      })
