-- What the requests of a session know once one of them was fed, or all are as they were.
use Rattle.std.proofs.Common.{◌≡◌, ◌≢◌, ℕ, ◌==◌, ◌≤◌, cond, Bool, true, false, [], Option, Some, None, refl, sym, ap, ◌∙◌, subst}
use Rattle.std.proofs.lemmas.Bool.{true≢false, eqb-true, eq-eqb}
use Rattle.std.proofs.lemmas.Option.{none-some, same_Some}
use Rattle.rbd_kinds.specs.declared.id.SiteId.{SiteId}
use Rattle.rbd_kinds.specs.declared.machine.Fed.{Fed}
use Rattle.rbd_kinds.specs.declared.reply.Reply.{Reply}
use Rattle.rbd_queue.specs.Line.{has_turn, member_of}
use Rattle.rbd_machine.specs.Answers.{CanBeFed}
use Rattle.rbd_machine.specs.Knowledge.{Knowledge}
use Rattle.rbd_machine.specs.Label.{Label}
use Rattle.rbd_machine.specs.Lawful.{IsLawful}
use Rattle.rbd_machine.specs.Path.{at_operation}
use Rattle.rbd_machine.specs.Plan.{Plan, Ask, Await, Note, Return, Goto, Standing, IsAsking, plan_after}
use Rattle.rbd_machine.specs.Possible.{IsFedPossible}
use Rattle.rbd_machine.specs.Standalone.{IsFedStandalone}
use Rattle.rbd_kinds.specs.declared.image_at.ImageAt.{ImageAt}
use Rattle.rbd_slots.specs.declared.running.Occupant.{Occupant}
use Rattle.rbd_slots.specs.declared.running.Occupant.TheVariants as occupant
use Rattle.rbd_slots.specs.declared.running.Running.{Running}
use Rattle.rbd_slots.specs.Advance.{track_of, fed_by, GoesFurther, AdvancesTo, IsSameStand}
use Rattle.rbd_slots.specs.Lines.{LinesView, lines_of}
use Rattle.rbd_slots.specs.OnTrack.{IsOnTrack, AreFair, LeavesOthers}
use Rattle.rbd_slots.specs.Session.{SessionView, IsSoundSession, IsAlike, IsAlikeIn, IsFed, ComesToIn, OfRunning, held_in, running_in, running_at}
use Rattle.rbd_slots.specs.Track.{Track, Lines, course_in, course_of, line_in, run}
use Rattle.rbd_slots.specs.Waits.{waits}
use Rattle.rbd_slots.proofs.Sound.{held_range}
use Rattle.rbd_knowledge.specs.Knowing.{KnowsBy, KnowsIn, AllKnow, HasItsTurns, KeepsTurns, knows_after, known_behind, unless_ended}
use Rattle.rbd_knowledge.specs.Tied.{IsTied}
use Rattle.rbd_knowledge.proofs.Onward.{behind_has, behind_in_turn, behind_lawful, behind_tied, fed_keeps_turns}
use Rattle.rbd_knowledge.proofs.Turning.{ended_keeps_turns}

-- the members of the line that it is in are found as before
same_found : (slot : ℕ) (place : Option ImageAt) (old new : Lines) → ((site : SiteId) (image : ℕ) → member_of slot (new site image) ≡ member_of slot (old site image))
    → member_of slot (line_in place new) ≡ member_of slot (line_in place old)
same_found slot None old new same = refl
same_found slot (Some p) old new same = same p.site p.image

module _ {R : Type 0} (stands : R → Standing) where
  of_running : (P : Running R → Type 0) (o : Option (Occupant R)) (r : Running R) → running_in o ≡ Some r → OfRunning P o → P r
  of_running P (Some (occupant.Running q)) r is holds = subst P (same_Some q r is) holds
  of_running P (Some (occupant.Refused line refusal)) r is holds = absurd (none-some r is)
  of_running P None r is holds = absurd (none-some r is)

  pub knows_there : (s : SessionView R) (knows : ℕ → Knowledge) (slot : ℕ) (r : Running R) → running_at slot s ≡ Some r → AllKnow stands knows s → KnowsBy stands slot r s.lines (knows slot)
  knows_there s knows slot r runs all = subst (λ o. KnowsIn stands slot o s.lines (knows slot)) runs (all slot)

  -- ---- the one that was fed

  goes_further : (slot : ℕ) (labels : Label → Plan) (plan : Plan) (t : Track) (r q : Running R) (lines : LinesView) → AdvancesTo stands slot labels plan t None r q lines
      → GoesFurther stands slot (record { labels = labels; plan = plan }) t None r q lines
  goes_further slot labels (Return reply) t r q lines comes = absurd (none-some reply comes.reply)
  goes_further slot labels (Ask site why o next) t r q lines comes = comes
  goes_further slot labels (Await w next) t r q lines comes = comes
  goes_further slot labels (Note site image event next) t r q lines comes = comes
  goes_further slot labels (Goto label) t r q lines comes = comes

  module _ (slot : ℕ) (r : Running R) (lines after : LinesView) (f : Fed) (k : Knowledge) (knows : KnowsBy stands slot r lines k) where
    abbrev learns : Knowledge
    learns = known_behind k (stands r.request).plan f

    further_knows : (q : Running R) → IsOnTrack slot r.extent true (stands r.request) (track_of r lines) → AreFair (lines_of lines) → IsAsking (stands r.request).plan
        → CanBeFed (stands r.request).plan f → IsFedStandalone f → IsFedPossible k (stands r.request).plan f → waits slot (track_of r lines) ≡ false
        → GoesFurther stands slot (record { labels = (stands r.request).labels; plan = at_operation (stands r.request).labels (plan_after (stands r.request).plan f) })
        (run slot (plan_after (stands r.request).plan f) (fed_by slot r.extent (track_of r lines) (stands r.request).plan f)) None r q after
        → KnowsBy stands slot q after learns
    further_knows q on fair asks can alone possible may_go goes = record {
      known_at = knows.known_at;
      lawful =
          subst (λ (s : Standing). IsLawful knows.known_at learns s.plan) (sym goes.request)
          (behind_lawful (stands r.request).labels knows.known_at knows.labels k (stands r.request).plan f can alone possible knows.lawful);
      labels = λ label fit. subst (λ (s : Standing). IsLawful knows.known_at (knows.known_at label) (s.labels label)) (sym goes.request) (knows.labels label fit);
      tied =
          subst (λ t. IsTied learns (course_of slot t)) (sym goes.track)
          (behind_tied slot r.extent (stands r.request).labels (stands r.request).plan f (track_of r lines) k asks can fair on knows.tied);
      in_turn = behind_in_turn knows.known_at (stands r.request).plan f k asks can knows.lawful knows.in_turn;
      has_turn =
          subst (λ (t : Track). HasItsTurns slot learns t.lines) (sym goes.track)
          (behind_has slot r.extent (stands r.request).labels knows.known_at (stands r.request).plan f (track_of r lines) k asks can fair on may_go knows.lawful knows.tied knows.in_turn);
    }

    comes_knows : IsOnTrack slot r.extent true (stands r.request) (track_of r lines) → AreFair (lines_of lines) → IsAsking (stands r.request).plan → CanBeFed (stands r.request).plan f → IsFedStandalone f
        → IsFedPossible k (stands r.request).plan f → waits slot (track_of r lines) ≡ false → (result : Option Reply) (o : Option (Occupant R)) → ComesToIn stands slot lines f result r o after → KnowsIn stands slot (running_in o) after (unless_ended result learns)
    comes_knows on fair asks can alone possible may_go None (Some (occupant.Running q)) comes =
        further_knows q on fair asks can alone possible may_go
        (goes_further slot (stands r.request).labels (at_operation (stands r.request).labels (plan_after (stands r.request).plan f))
        (run slot (plan_after (stands r.request).plan f) (fed_by slot r.extent (track_of r lines) (stands r.request).plan f)) r q after comes.1)
    comes_knows on fair asks can alone possible may_go (Some reply) (Some (occupant.Running q)) comes = absurd (none-some reply (sym comes.0))
    comes_knows on fair asks can alone possible may_go (Some reply) None comes = refl
    comes_knows on fair asks can alone possible may_go None None comes = absurd (true≢false (sym comes.0))
    comes_knows on fair asks can alone possible may_go result (Some (occupant.Refused line refusal)) comes = elim comes [ ]

  -- ---- the others

  pub others_know : (slot : ℕ) (o : Option (Running R)) (old new : LinesView) (k : Knowledge)
      → ((site : SiteId) (image : ℕ) → member_of slot (lines_of new site image) ≡ member_of slot (lines_of old site image))
      → ((site : SiteId) (image object : ℕ) → has_turn slot object (lines_of old site image) ≡ true → has_turn slot object (lines_of new site image) ≡ true)
      → KnowsIn stands slot o old k → KnowsIn stands slot o new k
  others_know slot None old new k same keeps knows = knows
  others_know slot (Some r) old new k same keeps knows = record {
    known_at = knows.known_at;
    lawful = knows.lawful;
    labels = knows.labels;
    tied = subst (IsTied k) (sym (ap (course_in r.turn [] r.place) (same_found slot r.place (lines_of old) (lines_of new) same))) knows.tied;
    in_turn = knows.in_turn;
    has_turn = λ site image object some shared unflat known. keeps site image object (knows.has_turn site image object some shared unflat known);
  }

  -- whoever is fed leaves the others their turns
  ends_keep : (slot : ℕ) (labels : Label → Plan) (plan : Plan) (t : Track) (result : Reply) (r q : Running R) (old : Lines) (after : LinesView) → KeepsTurns slot old t.lines
      → AdvancesTo stands slot labels plan t (Some result) r q after → KeepsTurns slot old (lines_of after)
  ends_keep slot labels (Return reply) t result r q old after keeps comes =
      subst (KeepsTurns slot old) (sym comes.left) (λ other differ site image object is. ended_keeps_turns slot t other differ site image object (keeps other differ site image object is))
  ends_keep slot labels (Ask site why o next) t result r q old after keeps comes = absurd (none-some result (sym comes.none))
  ends_keep slot labels (Await w next) t result r q old after keeps comes = absurd (none-some result (sym comes.none))
  ends_keep slot labels (Note site image event next) t result r q old after keeps comes = absurd (none-some result (sym comes.none))
  ends_keep slot labels (Goto label) t result r q old after keeps comes = absurd (none-some result (sym comes.none))

  module _ (slot : ℕ) (from : 1 ≤ slot) (to : slot ≤ 64) (r : Running R) (lines after : LinesView) (f : Fed) where
    comes_keep : IsOnTrack slot r.extent true (stands r.request) (track_of r lines) → AreFair (lines_of lines) → IsAsking (stands r.request).plan → CanBeFed (stands r.request).plan f
        → waits slot (track_of r lines) ≡ false → (result : Option Reply) (o : Option (Occupant R)) → ComesToIn stands slot lines f result r o after → KeepsTurns slot (lines_of lines) (lines_of after)
    comes_keep on fair asks can may_go result o comes = by result o comes
      where
        keeps : KeepsTurns slot (lines_of lines) (run slot (plan_after (stands r.request).plan f) (fed_by slot r.extent (track_of r lines) (stands r.request).plan f)).lines
        keeps = fed_keeps_turns slot from to r.extent (stands r.request).labels (stands r.request).plan f (track_of r lines) asks can fair may_go on

        by : (result : Option Reply) (o : Option (Occupant R)) → ComesToIn stands slot lines f result r o after → KeepsTurns slot (lines_of lines) (lines_of after)
        by None (Some (occupant.Running q)) comes =
            subst (KeepsTurns slot (lines_of lines))
            (sym (ap (λ (t : Track). t.lines) (goes_further slot (stands r.request).labels (at_operation (stands r.request).labels (plan_after (stands r.request).plan f))
            (run slot (plan_after (stands r.request).plan f) (fed_by slot r.extent (track_of r lines) (stands r.request).plan f)) r q after comes.1).track)) keeps
        by (Some reply) (Some (occupant.Running q)) comes = absurd (none-some reply (sym comes.0))
        by (Some reply) None comes =
            ends_keep slot (stands r.request).labels (at_operation (stands r.request).labels (plan_after (stands r.request).plan f))
            (run slot (plan_after (stands r.request).plan f) (fed_by slot r.extent (track_of r lines) (stands r.request).plan f)) reply r r (lines_of lines) after keeps comes.1
        by None None comes = absurd (true≢false (sym comes.0))
        by result (Some (occupant.Refused line refusal)) comes = elim comes [ ]

  -- whoever runs stands in a slot
  runs_held : (o : Option (Occupant R)) (r : Running R) → running_in o ≡ Some r → (x : Occupant R) × (o ≡ Some x)
  runs_held (Some x) r is = (x, refl)
  runs_held None r is = absurd (none-some r is)

  pub fed_know : (s t : SessionView R) (slot : ℕ) (r : Running R) (f : Fed) (result : Option Reply) (knows : ℕ → Knowledge) → IsSoundSession stands s → running_at slot s ≡ Some r
      → waits slot (track_of r s.lines) ≡ false → CanBeFed (stands r.request).plan f → IsFedStandalone f → IsFedPossible (knows slot) (stands r.request).plan f
      → IsFed stands slot f result s t → ((other : ℕ) → other ≢ slot → held_in other t.slots ≡ held_in other s.slots)
      → LeavesOthers slot (lines_of s.lines) (lines_of t.lines) → AllKnow stands knows s → AllKnow stands (knows_after knows slot result (stands r.request).plan f) t
  fed_know s t slot r f result knows sound runs may_go can alone possible is_fed slots leaves all other = by (other == slot) refl
    where
      learned_there : Knowledge
      learned_there = unless_ended result (known_behind (knows slot) (stands r.request).plan f)

      own : KnowsIn stands slot (running_at slot t) t.lines learned_there
      own =
          comes_knows slot r s.lines t.lines f (knows slot) (knows_there s knows slot r runs all) (sound.runs slot r runs) sound.fair (sound.asks slot r runs) can alone possible may_go result (held_in slot t.slots)
          (of_running (λ q. ComesToIn stands slot s.lines f result q (held_in slot t.slots) t.lines) (held_in slot s.slots) r runs is_fed)

      keeps : KeepsTurns slot (lines_of s.lines) (lines_of t.lines)
      keeps =
          let (x, holds) = runs_held (held_in slot s.slots) r runs in
          let range = held_range stands s sound slot x holds in
          comes_keep slot range.0 range.1 r s.lines t.lines f (sound.runs slot r runs) sound.fair (sound.asks slot r runs) can may_go result (held_in slot t.slots)
          (of_running (λ q. ComesToIn stands slot s.lines f result q (held_in slot t.slots) t.lines) (held_in slot s.slots) r runs is_fed)

      by : (b : Bool) → (other == slot) ≡ b → KnowsIn stands other (running_at other t) t.lines (cond b learned_there (knows other))
      by true same = subst (λ n. KnowsIn stands n (running_at n t) t.lines learned_there) (sym (eqb-true other slot same)) own
      by false differ =
          let apart : other ≢ slot = λ e. true≢false (sym (eq-eqb other slot e) ∙ differ) in
          subst (λ o. KnowsIn stands other (running_in o) t.lines (knows other)) (sym (slots other apart))
          (others_know other (running_at other s) s.lines t.lines (knows other) (leaves other apart) (keeps other apart) (all other))

  -- ---- all as they were

  same_stand_knows : (slot : ℕ) (r q : Running R) (old new : LinesView) (k : Knowledge) → IsSameStand stands r q → lines_of new ≡ lines_of old → KnowsBy stands slot r old k → KnowsBy stands slot q new k
  same_stand_knows slot r q old new k same lines knows = record {
    known_at = knows.known_at;
    lawful = subst (λ (s : Standing). IsLawful knows.known_at k s.plan) (sym same.same) knows.lawful;
    labels = λ label fit. subst (λ (s : Standing). IsLawful knows.known_at (knows.known_at label) (s.labels label)) (sym same.same) (knows.labels label fit);
    tied = subst (λ t. IsTied k (course_of slot t)) (sym same_track) knows.tied;
    in_turn = knows.in_turn;
    has_turn = subst (HasItsTurns slot k) (sym lines) knows.has_turn;
  }
    where
      same_track : track_of q new ≡ track_of r old
      same_track =
          ap (λ p. record { place = p; turn = q.turn; due = []; lines = lines_of new }) same.place
          ∙ ap (λ n. record { place = r.place; turn = n; due = []; lines = lines_of new }) same.turn
          ∙ ap (λ ls. record { place = r.place; turn = r.turn; due = []; lines = ls }) lines

  alike_in : (slot : ℕ) (o p : Option (Occupant R)) (old new : LinesView) (k : Knowledge) → IsAlikeIn stands o p → lines_of new ≡ lines_of old → KnowsIn stands slot (running_in o) old k
      → KnowsIn stands slot (running_in p) new k
  alike_in slot (Some (occupant.Running r)) (Some (occupant.Running q)) old new k alike lines knows = same_stand_knows slot r q old new k alike lines knows
  alike_in slot (Some (occupant.Running r)) (Some (occupant.Refused line refusal)) old new k alike lines knows = absurd (none-some r (ap running_in alike))
  alike_in slot (Some (occupant.Running r)) None old new k alike lines knows = absurd (none-some (occupant.Running r) alike)
  alike_in slot (Some (occupant.Refused line refusal)) p old new k alike lines knows =
      subst (λ o. KnowsIn stands slot (running_in o) new k) (sym alike) knows
  alike_in slot None p old new k alike lines knows = subst (λ o. KnowsIn stands slot (running_in o) new k) (sym alike) knows

  pub alike_know : (s t : SessionView R) (knows : ℕ → Knowledge) → IsAlike stands s t → AllKnow stands knows s → AllKnow stands knows t
  alike_know s t knows alike all slot = alike_in slot (held_in slot s.slots) (held_in slot t.slots) s.lines t.lines (knows slot) (alike.slots slot) alike.lines (all slot)
