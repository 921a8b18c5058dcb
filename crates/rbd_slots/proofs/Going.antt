-- A request goes on from one wait to the next, up to its next operation or to its end.
use Rattle.std.proofs.Common.{◌≡◌, inl, inr, ℕ, suc, ◌<◌, ◌≤◌, Bool, true, false, Option, Some, None, refl, sym, ap, ◌∙◌, subst, arith}
use Rattle.std.proofs.lemmas.Bool.{true≢false}
use Rattle.rbd_machine.specs.Orderly.{MayWait}
use Rattle.rbd_kinds.specs.declared.answer.Answer.{Answer}
use Rattle.rbd_kinds.specs.declared.id.SiteId.{SiteId}
use Rattle.rbd_kinds.specs.declared.layout.Extent.{Extent}
use Rattle.rbd_kinds.specs.declared.machine.Fed.TheVariants as fed
use Rattle.rbd_kinds.specs.declared.machine.Flow.{Flow}
use Rattle.rbd_kinds.specs.declared.machine.Flow.TheVariants as flow
use Rattle.rbd_kinds.specs.declared.machine.Want.{Want}
use Rattle.rbd_kinds.specs.declared.machine.Want.TheVariants as want
use Rattle.rbd_kinds.specs.declared.operation.Op.{Op}
use Rattle.rbd_kinds.specs.declared.reply.Reply.{Reply}
use Rattle.rbd_machine.specs.Answers.{CanGive}
use Rattle.rbd_machine.specs.Label.{Label}
use Rattle.rbd_machine.specs.Path.{at_operation}
use Rattle.rbd_machine.specs.Plan.{Plan, Ask, Await, Note, Return, Goto, Standing, IsAsking, IsClosed, IsLive, GoesOn, past_label, plan_after}
use Rattle.rbd_machine.specs.Wait.{Wait, want_of}
use Rattle.rbd_machine.specs.Wait as wait
use Rattle.rbd_machine.specs.declared.reason.Reason.{Reason}
use Rattle.rbd_queue.specs.Line.{member_of}
use Rattle.rbd_machine.specs.Course.{Course}
use Rattle.rbd_slots.specs.Advance.{wait_wanted, waits_before, waits_left, IsJoin, MayPass}
use Rattle.rbd_slots.specs.OnTrack.{IsOnTrack, IsSomewhere, IsNowhereElse, AreFair}
use Rattle.rbd_slots.specs.Track.{Track, course_of, waited_by, track_noted, answered_by, passed_by, run}
use Rattle.rbd_slots.proofs.Way.{place_there, waited_on_track, noted_on_track, answered_on_track}

abbrev pub want_or : Want → Option Want → Want
want_or other None = other
want_or other (Some w) = w

-- it is no jump
abbrev pub IsHere : Plan → Type 0
IsHere (Goto label) = ⊥
IsHere plan = Unit {0}

asks_here : (plan : Plan) → IsAsking plan → IsHere plan
asks_here (Ask site why o next) asks = tt
asks_here (Await w next) asks = elim asks [ ]
asks_here (Note site image event next) asks = elim asks [ ]
asks_here (Return reply) asks = elim asks [ ]
asks_here (Goto label) asks = elim asks [ ]

module _ (slot : ℕ) (e : Option Extent) (labels : Label → Plan) where
  abbrev at : Plan → Standing
  at plan = record { labels = labels; plan = plan }

  asks_settled : (plan : Plan) → IsAsking plan → past_label labels plan ≡ plan
  asks_settled (Ask site why o next) asks = refl
  asks_settled (Await w next) asks = elim asks [ ]
  asks_settled (Note site image event next) asks = elim asks [ ]
  asks_settled (Return reply) asks = elim asks [ ]
  asks_settled (Goto label) asks = elim asks [ ]

  asks_at : (plan : Plan) → IsAsking plan → at_operation labels plan ≡ plan
  asks_at (Ask site why o next) asks = refl
  asks_at (Await w next) asks = elim asks [ ]
  asks_at (Note site image event next) asks = elim asks [ ]
  asks_at (Return reply) asks = elim asks [ ]
  asks_at (Goto label) asks = elim asks [ ]

  asks_run : (plan : Plan) (t : Track) → IsAsking plan → run slot plan t ≡ t
  asks_run (Ask site why o next) t asks = refl
  asks_run (Await w next) t asks = elim asks [ ]
  asks_run (Note site image event next) t asks = elim asks [ ]
  asks_run (Return reply) t asks = elim asks [ ]
  asks_run (Goto label) t asks = elim asks [ ]

  asks_waits : (plan : Plan) → IsAsking plan → waits_before plan ≡ 0
  asks_waits (Ask site why o next) asks = refl
  asks_waits (Await w next) asks = elim asks [ ]
  asks_waits (Note site image event next) asks = elim asks [ ]
  asks_waits (Return reply) asks = elim asks [ ]
  asks_waits (Goto label) asks = elim asks [ ]

  -- ---- a jump is to an operation

  settled_here : (plan : Plan) → IsClosed labels plan → IsHere (past_label labels plan)
  settled_here (Ask site why o next) closed = tt
  settled_here (Await w next) closed = tt
  settled_here (Note site image event next) closed = tt
  settled_here (Return reply) closed = tt
  settled_here (Goto label) closed = asks_here (labels label) closed

  goes_settled : (plan : Plan) (t : Flow) (s : Standing) → IsClosed labels plan → GoesOn labels plan t s → GoesOn labels (past_label labels plan) t s
  goes_settled (Ask site why o next) t s closed goes = goes
  goes_settled (Await w next) t s closed goes = goes
  goes_settled (Note site image event next) t s closed goes = goes
  goes_settled (Return reply) t s closed goes = goes
  goes_settled (Goto label) flow.More s closed goes = record {
    live = goes.live;
    stands = goes.stands ∙ ap at (sym (asks_settled (labels label) closed));
  }
  goes_settled (Goto label) (flow.Done reply) s closed goes = cc

  at_settled : (plan : Plan) → IsClosed labels plan → at_operation labels (past_label labels plan) ≡ at_operation labels plan
  at_settled (Ask site why o next) closed = refl
  at_settled (Await w next) closed = refl
  at_settled (Note site image event next) closed = refl
  at_settled (Return reply) closed = refl
  at_settled (Goto label) closed = asks_at (labels label) closed

  run_settled : (plan : Plan) (t : Track) → IsClosed labels plan → run slot (past_label labels plan) t ≡ run slot plan t
  run_settled (Ask site why o next) t closed = refl
  run_settled (Await w next) t closed = refl
  run_settled (Note site image event next) t closed = refl
  run_settled (Return reply) t closed = refl
  run_settled (Goto label) t closed = asks_run (labels label) t closed

  waits_settled : (plan : Plan) → IsClosed labels plan → waits_before (past_label labels plan) ≤ waits_before plan
  waits_settled (Ask site why o next) closed = omega arith
  waits_settled (Await w next) closed = omega arith
  waits_settled (Note site image event next) closed = omega arith
  waits_settled (Return reply) closed = omega arith
  waits_settled (Goto label) closed = let none = asks_waits (labels label) closed in omega (arith, none)

  -- ---- on its way

  -- It was to go on with a plan, on its track; what comes of it in the end is told by that plan.
  pub record IsGoing (last : Plan) (final : Track) (u : Flow) (s : Standing) (t : Track) : Type 0 where
    pub to : Plan
    pub fresh : Bool
    pub here : IsHere to
    pub goes : GoesOn labels to u s
    pub on : IsOnTrack slot e fresh (at to) t
    pub last_is : at_operation labels to ≡ last
    pub final_is : run slot to t ≡ final

  going : (plan : Plan) (fresh : Bool) (u : Flow) (s : Standing) (t : Track) (last : Plan) (final : Track) → IsClosed labels plan → GoesOn labels plan u s → IsOnTrack slot e fresh (at (past_label labels plan)) t
      → at_operation labels plan ≡ last → run slot plan t ≡ final → IsGoing last final u s t
  going plan fresh u s t last final closed goes on last_is final_is = record {
    to = past_label labels plan;
    fresh = fresh;
    here = settled_here plan closed;
    goes = goes_settled plan u s closed goes;
    on = on;
    last_is = at_settled plan closed ∙ last_is;
    final_is = run_settled plan t closed ∙ final_is;
  }

  pub begins_going : (fresh : Bool) (site : SiteId) (why : Reason) (o : Op) (next : Answer → Plan) (a : Answer) (t : Track) (u : Flow) (s : Standing) → CanGive o a → AreFair t.lines
      → IsOnTrack slot e fresh (at (Ask site why o next)) t → GoesOn labels (next a) u s
      → IsGoing (at_operation labels (next a)) (run slot (next a) (answered_by slot e t site o a)) u s (answered_by slot e t site o a)
  begins_going fresh site why o next a t u s can fair on goes =
      going (next a) true u s (answered_by slot e t site o a) (at_operation labels (next a)) (run slot (next a) (answered_by slot e t site o a)) (on.orderly.closed a) goes
      (answered_on_track slot e labels fresh site why o next a t can fair on) refl refl

  -- What it waits for may be passed over, and it then is on its way again, with one wait less.
  pub record GoesPast (last : Plan) (final : Track) (s : Standing) (t : Track) (w : Want) (fresh : Bool) (u : Flow) (new : Standing) : Type 0 where
    pub going : IsGoing last final u new (passed_by slot t w)
    pub less : waits_left u new.plan < waits_before s.plan
    pub opens : going.fresh ≡ true → (fresh ≡ true) × (IsJoin w → ⊥)

  pub record IsPassing (last : Plan) (final : Track) (s : Standing) (t : Track) (w : Want) (fresh : Bool) : Type 0 where
    pub may : MayPass slot t w
    pub joins : IsJoin w → fresh ≡ true
    pub further : (u : Flow) (new : Standing) → GoesOn labels (plan_after s.plan fed.Passed) u new → GoesPast last final s t w fresh u new

  left_less : (next : Plan) (u : Flow) (new : Standing) → IsClosed labels next → GoesOn labels next u new → waits_left u new.plan < suc (waits_before next)
  left_less next (flow.Done reply) new closed goes = omega arith
  left_less next flow.More new closed goes =
      let same : waits_before new.plan ≡ waits_before (past_label labels next) = ap (λ (s : Standing). waits_before s.plan) goes.stands in
      let most = waits_settled next closed in
      omega (arith, same, most)

  may_join : (w : Wait) (fresh : Bool) (t : Track) (old : Standing) → IsOnTrack slot e fresh old t → MayWait fresh (course_of slot t) w → MayPass slot t (want_of w)
  may_join (wait.Join site image sharing) fresh t old on may = go on.somewhere
    where
      go : IsSomewhere slot t → (t.place ≡ None) × (member_of slot (t.lines site image) ≡ None)
      go (inl nowhere) = (nowhere, subst (λ q. IsNowhereElse slot q t.lines) nowhere on.elsewhere site image refl)
      go (inr (p, m, there)) = let clash = sym (place_there slot p m t there) ∙ may.1 in cc
  may_join (wait.Hold site image) fresh t old on may = tt
  may_join (wait.Turn object) fresh t old on may = tt
  may_join (wait.Applied site image) fresh t old on may = tt
  may_join (wait.Leave site image) fresh t old on may = tt

  is_fresh : (w : Wait) (fresh : Bool) (c : Course) → MayWait fresh c w → IsJoin (want_of w) → fresh ≡ true
  is_fresh (wait.Join site image sharing) fresh c may join = may.0
  is_fresh (wait.Hold site image) fresh c may join = elim join [ ]
  is_fresh (wait.Turn object) fresh c may join = elim join [ ]
  is_fresh (wait.Applied site image) fresh c may join = elim join [ ]
  is_fresh (wait.Leave site image) fresh c may join = elim join [ ]

  passed_is : (t : Track) (w : Wait) → passed_by slot t (want_of w) ≡ waited_by slot t w
  passed_is t (wait.Join site image sharing) = refl
  passed_is t (wait.Hold site image) = refl
  passed_is t (wait.Turn object) = refl
  passed_is t (wait.Applied site image) = refl
  passed_is t (wait.Leave site image) = refl

  wanted_is : (one w : Want) (s there : Standing) → s ≡ there → wait_wanted there.plan ≡ Some one → wait_wanted s.plan ≡ Some w → one ≡ w
  wanted_is one w s there same is wants = ap (want_or one) (sym is ∙ ap (λ (s : Standing). wait_wanted s.plan) (sym same) ∙ wants)

  past : (last : Plan) (final : Track) (s : Standing) (t : Track) (w : Want) (to : Plan) (fresh : Bool) → IsHere to → GoesOn labels to flow.More s → IsOnTrack slot e fresh (at to) t
      → at_operation labels to ≡ last → run slot to t ≡ final → wait_wanted s.plan ≡ Some w → IsPassing last final s t w fresh
  unfolding going
  past last final s t w (Ask site why o next) fresh here goes on last_is final_is wants =
      let clash : None ≡ Some w = ap (λ (s : Standing). wait_wanted s.plan) (sym goes.stands) ∙ wants in cc
  past last final s t w (Return reply) fresh here goes on last_is final_is wants = elim (subst (λ (s : Standing). IsLive s.plan) goes.stands goes.live) [ ]
  past last final s t w (Goto label) fresh here goes on last_is final_is wants = elim here [ ]
  past last final s t w (Await one next) fresh here goes on last_is final_is wants =
      let both = waited_on_track slot e labels fresh one next t on in
      let closed : IsClosed labels next = on.orderly.closed in
      let same = sym (passed_is t one) in
      let passing : IsPassing last final (at (Await one next)) t (want_of one) fresh = record {
        may = may_join one fresh t (at (Await one next)) on both.0;
        joins = is_fresh one fresh (course_of slot t) both.0;
        further = λ u new goes. record {
          going =
              going next false u new (passed_by slot t (want_of one)) last final closed goes (subst (λ p. IsOnTrack slot e false (at (past_label labels next)) p) same both.1) last_is
              (ap (run slot next) (sym same) ∙ final_is);
          less = left_less next u new closed goes;
          opens = λ is. absurd (true≢false (sym is));
        };
      } in
      subst (λ s. IsPassing last final s t w fresh) (sym goes.stands)
      (subst (λ w. IsPassing last final (at (Await one next)) t w fresh) (wanted_is (want_of one) w s (at (Await one next)) goes.stands refl wants) passing)
  past last final s t w (Note site image event next) fresh here goes on last_is final_is wants =
      let both = noted_on_track slot e labels fresh site image event next t on in
      let closed : IsClosed labels next = on.orderly.closed in
      let passing : IsPassing last final (at (Note site image event next)) t (want.Note site image) fresh = record {
        may = on.takes;
        joins = λ join. elim join [ ];
        further = λ u new goes. record {
          going = going next fresh u new (track_noted slot t) last final closed goes both.1 last_is final_is;
          less = left_less next u new closed goes;
          opens = λ is. (is, λ join. join);
        };
      } in
      subst (λ s. IsPassing last final s t w fresh) (sym goes.stands)
      (subst (λ w. IsPassing last final (at (Note site image event next)) t w fresh) (wanted_is (want.Note site image) w s (at (Note site image event next)) goes.stands refl wants) passing)

  pub goes_past : (last : Plan) (final : Track) (s : Standing) (t : Track) (w : Want) (g : IsGoing last final flow.More s t) → wait_wanted s.plan ≡ Some w → IsPassing last final s t w g.fresh
  goes_past last final s t w g wants = past last final s t w g.to g.fresh g.here g.goes g.on g.last_is g.final_is wants

  -- ---- where it stops

  -- it stands at its operation
  pub record IsAtOperation (last : Plan) (final : Track) (s : Standing) (t : Track) : Type 0 where
    pub asks : IsAsking s.plan
    pub stands : s ≡ at last
    pub on : (fresh : Bool) × IsOnTrack slot e fresh s t
    pub track : final ≡ t

  stops : (last : Plan) (final : Track) (s : Standing) (t : Track) (to : Plan) (fresh : Bool) → IsHere to → GoesOn labels to flow.More s → IsOnTrack slot e fresh (at to) t
      → at_operation labels to ≡ last → run slot to t ≡ final → wait_wanted s.plan ≡ None → IsAtOperation last final s t
  stops last final s t (Ask site why o next) fresh here goes on last_is final_is none = record {
    asks = subst (λ (s : Standing). IsAsking s.plan) (sym goes.stands) tt;
    stands = goes.stands ∙ ap at last_is;
    on = (fresh, subst (λ s. IsOnTrack slot e fresh s t) (sym goes.stands) on);
    track = sym final_is;
  }
  stops last final s t (Await w next) fresh here goes on last_is final_is none =
      let clash : Some (want_of w) ≡ None = ap (λ (s : Standing). wait_wanted s.plan) (sym goes.stands) ∙ none in cc
  stops last final s t (Note site image event next) fresh here goes on last_is final_is none =
      let clash : Some (want.Note site image) ≡ None = ap (λ (s : Standing). wait_wanted s.plan) (sym goes.stands) ∙ none in cc
  stops last final s t (Return reply) fresh here goes on last_is final_is none = elim (subst (λ (s : Standing). IsLive s.plan) goes.stands goes.live) [ ]
  stops last final s t (Goto label) fresh here goes on last_is final_is none = elim here [ ]

  pub stops_at_operation : (last : Plan) (final : Track) (s : Standing) (t : Track) → IsGoing last final flow.More s t → wait_wanted s.plan ≡ None → IsAtOperation last final s t
  stops_at_operation last final s t g none = stops last final s t g.to g.fresh g.here g.goes g.on g.last_is g.final_is none

  -- or it has ended
  pub ends_there : (last : Plan) (final : Track) (reply : Reply) (s : Standing) (t : Track) → IsGoing last final (flow.Done reply) s t → (last ≡ Return reply) × (final ≡ t)
  ends_there last final reply s t g = (
    sym g.last_is ∙ ap (at_operation labels) g.goes,
    sym g.final_is ∙ ap (λ p. run slot p t) g.goes,
  )
