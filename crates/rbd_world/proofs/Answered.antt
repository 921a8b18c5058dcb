-- The request that was polled: it is under way at its next operation, or its reply is meant.
use Rattle.std.proofs.Common.{◌≡◌, ℕ, cond, Bool, true, false, List, [], ◌∷◌, ◌++◌, Option, Some, None, refl, sym, ap, ◌∙◌, subst}
use Rattle.std.proofs.lemmas.Bool.{eq-eqb}
use Rattle.std.proofs.lemmas.Option.{none-some, same_Some}
use Rattle.rbd_kinds.specs.declared.layout.Extent.{Extent}
use Rattle.rbd_machine.specs.Course.{looks_under_lock_at}
use Rattle.rbd_flat.specs.declared.effect.Effect.{Effect}
use Rattle.rbd_kinds.specs.declared.answer.Answer.{Answer}
use Rattle.rbd_kinds.specs.declared.answer.Answer.TheVariants as answer
use Rattle.rbd_kinds.specs.declared.header_op.HeaderOp.TheVariants as header
use Rattle.rbd_kinds.specs.declared.id.Instance.{Instance}
use Rattle.rbd_kinds.specs.declared.id.SiteId.{SiteId}
use Rattle.rbd_kinds.specs.declared.machine.Fed.TheVariants as fed
use Rattle.rbd_kinds.specs.declared.operation.Op.{Op}
use Rattle.rbd_kinds.specs.declared.operation.Op.TheVariants as op
use Rattle.rbd_kinds.specs.declared.reply.Reply.{Reply}
use Rattle.rbd_knowledge.specs.Calm.{IsCalm, IsCalmRequest}
use Rattle.rbd_knowledge.proofs.Unowned.{calm_stays}
use Rattle.rbd_machine.specs.Answers.{CanBeFed}
use Rattle.rbd_knowledge.specs.Knowing.{known_behind}
use Rattle.rbd_machine.specs.Knowledge.{Knowledge, nothing_known}
use Rattle.rbd_machine.specs.Label.{Label}
use Rattle.rbd_machine.specs.Path.{Answered, IsWalk, at_operation}
use Rattle.rbd_machine.specs.Plan.{Plan, Ask, Await, Note, Return, Goto, Standing, plan_after}
use Rattle.rbd_machine.specs.Refused.{AreGiven, IsGiven}
use Rattle.rbd_machine.specs.declared.reason.Reason.{Reason}
use Rattle.rbd_meaning.specs.Meant.{IsMeantBy}
use Rattle.rbd_catalog.specs.CommandsMeant.{command_is_meant}
use Rattle.rbd_slots.specs.declared.running.Occupant.{Occupant}
use Rattle.rbd_slots.specs.declared.running.Occupant.TheVariants as occupant
use Rattle.rbd_slots.specs.declared.running.Running.{Running}
use Rattle.rbd_slots.specs.Advance.{AdvancesTo, fed_by, track_of}
use Rattle.rbd_slots.specs.Lines.{LinesView}
use Rattle.rbd_slots.specs.Session.{ComesToIn, script_line}
use Rattle.rbd_slots.specs.Track.{Track, answered_by, course_of, track_looked, run as run_on}
use Rattle.rbd_world.specs.Run.{Itself, Happening, Did, Operation, asked_by, steps_of}
use Rattle.rbd_machine.specs.Standalone.{TellAllStandalone, TellsStandalone}
use Rattle.rbd_world.specs.Seats.{seat_at}
use Rattle.rbd_world.specs.Sound.{IsRightlyDone, IsDue, IsHeldRightly, IsLedTo, IsReplyMeant, IsUnderWay, has_ended, HasLearned}
use Rattle.rbd_world.specs.Step.{reply_at}
use Rattle.rbd_world.proofs.Walks.{IsLed, given_more, standalone_more, led_on, led_known}

-- ---- who waits for nothing stays in no line

pub calm_place : (slot : ℕ) (p : Plan) (t : Track) → IsCalm p → (run_on slot p t).place ≡ t.place
calm_place slot (Ask s why o next) t calm = refl
calm_place slot (Await wait next) t calm = absurd calm
calm_place slot (Note s image event next) t calm = absurd calm
calm_place slot (Return reply) t calm = refl
calm_place slot (Goto label) t calm = refl

-- an answer leaves the place
pub answered_place : (slot : ℕ) (e : Option Extent) (t : Track) (s : SiteId) (o : Op) (a : Answer) → (answered_by slot e t s o a).place ≡ t.place
answered_place slot e t s (op.Header image header.Get) (answer.Header h) = by (looks_under_lock_at s image (course_of slot t).place)
  where
    by : (b : Bool) → (cond b (track_looked slot e h t) t).place ≡ t.place
    by true = refl
    by false = refl
answered_place slot e t s o a = refl

pub calm_next : (s : SiteId) (why : Reason) (o : Op) (next : Answer → Plan) (a : Answer) (p : Plan) → p ≡ Ask s why o next → IsCalm p → IsCalm (next a)
calm_next s why o next a p is calm = subst IsCalm is calm a

module _ {R : Type 0} (stands : R → Standing) where
  -- the same line, at the next operation
  pub record WentOn (labels : Label → Plan) (plan : Plan) (t : Track) (r q : Running R) : Type 0 where
    pub line : q.line ≡ r.line
    pub stand : stands q.request ≡ record { labels = labels; plan = plan }
    pub place : q.place ≡ t.place

  pub went_on : (slot : ℕ) (labels : Label → Plan) (plan : Plan) (t : Track) (result : Option Reply) (r q : Running R) (lines : LinesView) → result ≡ None
      → AdvancesTo stands slot labels plan t result r q lines → WentOn labels plan t r q
  went_on slot labels (Return reply) t result r q lines none comes = absurd (none-some reply (sym none ∙ comes.reply))
  went_on slot labels (Ask s why o next) t result r q lines none comes = record { line = comes.line; stand = comes.request; place = ap (λ (x : Track). x.place) comes.track }
  went_on slot labels (Await w next) t result r q lines none comes = record { line = comes.line; stand = comes.request; place = ap (λ (x : Track). x.place) comes.track }
  went_on slot labels (Note s image event next) t result r q lines none comes = record { line = comes.line; stand = comes.request; place = ap (λ (x : Track). x.place) comes.track }
  went_on slot labels (Goto label) t result r q lines none comes = record { line = comes.line; stand = comes.request; place = ap (λ (x : Track). x.place) comes.track }

  module _ (homes : ℕ → SiteId) (session slot : ℕ) (run : List Happening) (me : Instance) (whose : me.session ≡ session) (r : Running R) (way : IsUnderWay stands (seat_at homes session) me run r)
      (s : SiteId) (why : Reason) (o : Op) (next : Answer → Plan) (asks : (stands r.request).plan ≡ Ask s why o next) (a : Answer) (can : IsGiven o a) (alone : TellsStandalone a)
      (number : ℕ) (effect : Option Effect) where
    abbrev done : Operation
    done = record { by = Itself r.line; instance = me; site = s; number = number; op = o; answer = a; effect = effect }

    abbrev step : Answered
    step = record { site = s; op = o; answer = a }

    session_is : way.begun.asked.who.session ≡ session
    session_is = ap (λ (i : Instance). i.session) way.mine ∙ whose

    -- its walk has one step more
    steps_now : (result : Option Reply) → steps_of r.line (Did done result ∷ run) ≡ steps_of r.line run ++ step ∷ []
    steps_now result = ap (λ b. steps_of r.line run ++ cond b (step ∷ []) []) (eq-eqb r.line r.line refl)

    led : IsLed way.start.labels way.start.plan (steps_of r.line run ++ step ∷ []) (at_operation way.start.labels (next a))
    led =
        led_on way.start.labels way.start.plan (steps_of r.line run) s why o next a
        (record { feds = way.feds; walk = subst (IsWalk way.start.labels way.start.plan way.feds (steps_of r.line run)) asks way.walk })

    given : AreGiven (steps_of r.line run ++ step ∷ [])
    given = given_more (steps_of r.line run) s o a way.given can

    standalone : TellAllStandalone (steps_of r.line run ++ step ∷ [])
    standalone = standalone_more (steps_of r.line run) s o a way.standalone alone

    -- ---- it has ended

    meant : (reply : Reply) → at_operation (stands r.request).labels (next a) ≡ Return reply → IsReplyMeant homes r.line reply run (Did done (Some reply) ∷ run)
    meant reply ends =
        let walk : IsWalk way.start.labels way.start.plan led.feds (steps_of r.line run ++ step ∷ []) (Return reply) =
        subst (IsWalk way.start.labels way.start.plan led.feds (steps_of r.line run ++ step ∷ [])) (ap (λ ls. at_operation ls (next a)) (sym way.labels) ∙ ends) led.walk in
        record {
          begun = way.begun;
          ended =
              subst (λ i. IsLedTo (seat_at homes i) way.begun.asked.command (steps_of r.line (Did done (Some reply) ∷ run)) (Return reply)) (sym session_is)
              (subst (λ steps. IsLedTo (seat_at homes session) way.begun.asked.command steps (Return reply)) (sym (steps_now (Some reply)))
              (record { start = way.start; plan = way.plan; feds = led.feds; walk = walk; given = given; standalone = standalone }));
          meant =
              subst (λ i. IsMeantBy (seat_at homes i) way.begun.asked.command (steps_of r.line (Did done (Some reply) ∷ run)) reply) (sym session_is)
              (subst (λ steps. IsMeantBy (seat_at homes session) way.begun.asked.command steps reply) (sym (steps_now (Some reply)))
              (command_is_meant (seat_at homes session) way.begun.asked.command way.start led.feds (steps_of r.line run ++ step ∷ []) reply way.plan given standalone walk));
        }

    due_at : IsRightlyDone done run → (p : Plan) → at_operation (stands r.request).labels (next a) ≡ p → IsDue homes (Did done (reply_at p)) run
    due_at is_done (Return reply) is = (is_done, meant reply is)
    due_at is_done (Ask there by wanted more) is = (is_done, way.begun)
    due_at is_done (Await wait more) is = (is_done, way.begun)
    due_at is_done (Note there image event more) is = (is_done, way.begun)
    due_at is_done (Goto label) is = (is_done, way.begun)

    pub answer_due : IsRightlyDone done run → IsDue homes (Did done (reply_at (at_operation (stands r.request).labels (next a)))) run
    answer_due is_done = due_at is_done (at_operation (stands r.request).labels (next a)) refl

    -- ---- it goes on

    can_fed : CanBeFed (stands r.request).plan (fed.Answer a)
    can_fed = subst (λ p. CanBeFed p (fed.Answer a)) (sym asks) can.can

    abbrev to : Plan
    to = at_operation (stands r.request).labels (plan_after (stands r.request).plan (fed.Answer a))

    abbrev went : LinesView → Track
    went lines = run_on slot (next a) (answered_by slot r.extent (track_of r lines) s o a)

    further : (lines : LinesView) (q : Running R) → WentOn (stands r.request).labels to (went lines) r q → IsUnderWay stands (seat_at homes session) me (Did done None ∷ run) q
    further lines q on = record {
      begun = record {
        asked = way.begun.asked;
        is = ap (λ l. asked_by l run) on.line ∙ way.begun.is;
        unended = ap (λ l. has_ended l run) on.line ∙ way.begun.unended;
      };
      mine = way.mine;
      start = way.start;
      plan = way.plan;
      labels = ap (λ (st : Standing). st.labels) on.stand ∙ way.labels;
      feds = led.feds;
      walk =
          subst (λ steps. IsWalk way.start.labels way.start.plan led.feds steps (stands q.request).plan) (sym steps_there)
          (subst (IsWalk way.start.labels way.start.plan led.feds (steps_of r.line run ++ step ∷ [])) plan_there led.walk);
      given = subst AreGiven (sym steps_there) given;
      standalone = subst TellAllStandalone (sym steps_there) standalone;
      calm = λ looks.
          let calm = way.calm looks in (
            subst IsCalmRequest (sym on.stand)
                (record { plan = calm_stays (stands r.request).labels calm.0.labels (stands r.request).plan (fed.Answer a) calm.0.plan can_fed; labels = calm.0.labels }),
            on.place ∙ calm_place slot (next a) (answered_by slot r.extent (track_of r lines) s o a) (calm_next s why o next a (stands r.request).plan asks calm.0.plan)
                ∙ answered_place slot r.extent (track_of r lines) s o a ∙ calm.1,
          );
    }
      where
        steps_there : steps_of q.line (Did done None ∷ run) ≡ steps_of r.line run ++ step ∷ []
        steps_there = ap (λ l. steps_of l (Did done None ∷ run)) on.line ∙ steps_now None

        plan_there : at_operation way.start.labels (next a) ≡ (stands q.request).plan
        plan_there =
            ap (λ ls. at_operation ls (next a)) (sym way.labels)
            ∙ sym (ap (λ p. at_operation (stands r.request).labels (plan_after p (fed.Answer a))) asks)
            ∙ sym (ap (λ (st : Standing). st.plan) on.stand)

    pub answer_held : (result : Option Reply) (before after : LinesView) (p : Option (Occupant R)) → ComesToIn stands slot before (fed.Answer a) result r p after
        → IsHeldRightly stands (seat_at homes session) me (Did done result ∷ run) p
    answer_held result before after None comes = tt
    answer_held result before after (Some (occupant.Refused line refusal)) comes = absurd comes
    answer_held (Some reply) before after (Some (occupant.Running q)) comes = absurd (none-some reply (sym comes.0))
    answer_held None before after (Some (occupant.Running q)) comes =
        further before q (
        subst (λ t. WentOn (stands r.request).labels to t r q) (track_is before)
        (went_on slot (stands r.request).labels to _ None r q after refl comes.1))
      where
        track_is : (lines : LinesView)
            → run_on slot (plan_after (stands r.request).plan (fed.Answer a)) (fed_by slot r.extent (track_of r lines) (stands r.request).plan (fed.Answer a)) ≡ went lines
        track_is lines = ap (λ p. run_on slot (plan_after p (fed.Answer a)) (fed_by slot r.extent (track_of r lines) p (fed.Answer a))) asks

    -- ---- what it learns

    pub answer_learned : (k : Knowledge) → HasLearned stands run r k → (before after : LinesView) (q : Running R) → ComesToIn stands slot before (fed.Answer a) None r (Some (occupant.Running q)) after
        → HasLearned stands (Did done None ∷ run) q (known_behind k (Ask s why o next) (fed.Answer a))
    answer_learned k has before after q comes = record {
      begun = record {
        asked = has.begun.asked;
        is = ap (λ l. asked_by l run) on.line ∙ has.begun.is;
        unended = ap (λ l. has_ended l run) on.line ∙ has.begun.unended;
      };
      seat = has.seat;
      start = has.start;
      plan = has.plan;
      labels = ap (λ (st : Standing). st.labels) on.stand ∙ has.labels;
      feds = goes.feds;
      walk =
          subst (λ steps. IsWalk has.start.labels has.start.plan goes.feds steps (stands q.request).plan) (sym (ap (λ l. steps_of l (Did done None ∷ run)) on.line ∙ steps_now None))
          (subst (IsWalk has.start.labels has.start.plan goes.feds (steps_of r.line run ++ step ∷ [])) plan_there goes.walk);
      known =
          ap (λ j. known_behind j (Ask s why o next) (fed.Answer a)) has.known
          ∙ sym (led_known has.start.labels has.start.plan (steps_of r.line run) s why o next a came nothing_known);
    }
      where
        on :
            WentOn (stands r.request).labels to
            (run_on slot (plan_after (stands r.request).plan (fed.Answer a)) (fed_by slot r.extent (track_of r before) (stands r.request).plan (fed.Answer a))) r q
        on =
            went_on slot (stands r.request).labels to
            (run_on slot (plan_after (stands r.request).plan (fed.Answer a)) (fed_by slot r.extent (track_of r before) (stands r.request).plan (fed.Answer a))) None r q after refl comes.1

        came : IsLed has.start.labels has.start.plan (steps_of r.line run) (Ask s why o next)
        came = record { feds = has.feds; walk = subst (IsWalk has.start.labels has.start.plan has.feds (steps_of r.line run)) asks has.walk }

        goes : IsLed has.start.labels has.start.plan (steps_of r.line run ++ step ∷ []) (at_operation has.start.labels (next a))
        goes = led_on has.start.labels has.start.plan (steps_of r.line run) s why o next a came

        plan_there : at_operation has.start.labels (next a) ≡ (stands q.request).plan
        plan_there =
            ap (λ ls. at_operation ls (next a)) (sym has.labels)
            ∙ sym (ap (λ p. at_operation (stands r.request).labels (plan_after p (fed.Answer a))) asks)
            ∙ sym (ap (λ (st : Standing). st.plan) on.stand)

    -- ---- its slot has its line, or none

    pub answer_line : (result : Option Reply) (before after : LinesView) (p : Option (Occupant R)) → ComesToIn stands slot before (fed.Answer a) result r p after
        → (line : ℕ) → script_line p ≡ Some line → r.line ≡ line
    answer_line result before after None comes line is = absurd (none-some line is)
    answer_line result before after (Some (occupant.Refused number refusal)) comes line is = absurd comes
    answer_line result before after (Some (occupant.Running q)) comes line is =
        let on = went_on slot (stands r.request).labels to _ result r q after comes.0 comes.1 in sym on.line ∙ same_Some q.line line is
