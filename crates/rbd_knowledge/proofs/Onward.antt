-- Up to its next operation a request is lawful by what it knows there, and goes with its place.
use Rattle.std.proofs.Common.{◌≡◌, inl, inr, ℕ, ◌≤◌, Bool, true, false, [], Option, Some, None, refl, sym, ◌∙◌, subst}
use Rattle.std.proofs.lemmas.Bool.{true≢false, and_parts, or_parts}
use Rattle.std.proofs.lemmas.Option.{none-some}
use Rattle.rbd_kinds.specs.declared.sharing.Sharing.{Sharing}
use Rattle.rbd_machine.specs.Course.{PlaceInLine, objects_behind, looks_under_lock_at, is_waiting, noted, waited}
use Rattle.rbd_machine.specs.Orderly.{IsFirstObject, IsInLine, MayWait}
use Rattle.rbd_kinds.specs.declared.id.SiteId.{SiteId}
use Rattle.rbd_kinds.specs.declared.layout.Extent.{Extent}
use Rattle.rbd_kinds.specs.declared.machine.Fed.{Fed}
use Rattle.rbd_kinds.specs.declared.machine.Fed.TheVariants as fed
use Rattle.rbd_queue.specs.Line.{may_pass, member_of}
use Rattle.rbd_machine.specs.Answers.{CanBeFed}
use Rattle.rbd_machine.specs.Knowledge.{Knowledge, is_at, learned, known_after_wait}
use Rattle.rbd_machine.specs.Label.{Label, IsFit}
use Rattle.rbd_machine.specs.Lawful.{IsLawful}
use Rattle.rbd_machine.specs.Path.{at_operation}
use Rattle.rbd_machine.specs.Plan.{Plan, Ask, Await, Note, Return, Goto, Standing, IsAsking, plan_after, past_label}
use Rattle.rbd_machine.specs.Possible.{IsFedPossible}
use Rattle.rbd_machine.specs.Standalone.{IsFedStandalone}
use Rattle.rbd_machine.specs.Wait.{Wait}
use Rattle.rbd_machine.specs.Wait as wait
use Rattle.rbd_machine.proofs.AtLeast.{lawful_by_more}
use Rattle.rbd_machine.proofs.Lawful.{told_alone}
use Rattle.rbd_slots.specs.Advance.{fed_by}
use Rattle.rbd_slots.specs.OnTrack.{IsOnTrack, IsSomewhere, IsNowhereElse, AreFair}
use Rattle.rbd_slots.specs.Waits.{awaits_line, awaits_turn, awaits_look, waits}
use Rattle.rbd_slots.specs.Track.{Track, course_in, course_of, line_in, run, waited_by, track_noted, answered_by}
use Rattle.rbd_interference.specs.Turns.{KnowsInTurn}
use Rattle.rbd_interference.proofs.Turns.{answered_in_turn, waited_in_turn}
use Rattle.rbd_slots.proofs.Fairness.{answered_by_fair}
use Rattle.rbd_slots.proofs.Track.{course_held, course_turned, course_applied, course_noted, course_joined, course_left, course_answered}
use Rattle.rbd_slots.proofs.Way.{in_line_there, place_there, answered_on_track, waited_on_track, noted_on_track}
use Rattle.rbd_knowledge.specs.Knowing.{HasItsTurns, KeepsTurns, known_at_operation, known_behind}
use Rattle.rbd_knowledge.specs.Tied.{IsTied}
use Rattle.rbd_knowledge.proofs.Along.{answered_tied, waited_tied, noted_tied}
use Rattle.rbd_knowledge.proofs.InTurn.{answered_has, noted_has, quiet_before, run_keeps_turns, waited_has}
use Rattle.rbd_knowledge.proofs.There.{may_of}
use Rattle.rbd_knowledge.proofs.Turning.{answered_keeps_turns, turn_of_goes}

-- ---- what it may do

module _ (labels : Label → Plan) (at : Label → Knowledge) (lawful_there : (label : Label) → IsFit label → IsLawful at (at label) (labels label)) where
  pub way_lawful : (plan : Plan) (k : Knowledge) → IsLawful at k plan → IsLawful at (known_at_operation k plan) (at_operation labels plan)
  way_lawful (Ask site why op next) k lawful = lawful
  way_lawful (Await w next) k lawful = way_lawful next (known_after_wait k w) lawful
  way_lawful (Note site image event next) k lawful = way_lawful next k lawful
  way_lawful (Return reply) k lawful = lawful
  way_lawful (Goto label) k knows = lawful_by_more at (labels label) k (at label) knows.1 (lawful_there label knows.0)

  pub behind_lawful : (k : Knowledge) (plan : Plan) (f : Fed) → CanBeFed plan f → IsFedStandalone f → IsFedPossible k plan f → IsLawful at k plan → IsLawful at (known_behind k plan f) (at_operation labels (plan_after plan f))
  behind_lawful k (Ask site why op next) (fed.Answer a) can alone possible lawful = way_lawful (next a) (learned k site op a) (lawful.1 a (told_alone k site can alone possible))
  behind_lawful k (Ask site why op next) fed.Passed can alone possible lawful = absurd can
  behind_lawful k (Await w next) (fed.Answer a) can alone possible lawful = absurd can
  behind_lawful k (Await w next) fed.Passed can alone possible lawful = way_lawful next (known_after_wait k w) lawful
  behind_lawful k (Note site image event next) (fed.Answer a) can alone possible lawful = absurd can
  behind_lawful k (Note site image event next) fed.Passed can alone possible lawful = way_lawful next k lawful
  behind_lawful k (Return reply) f can alone possible lawful = absurd can
  behind_lawful k (Goto label) f can alone possible lawful = absurd can

-- ---- where it is

no_first : (object : ℕ) (turn : Option ℕ) → IsFirstObject object (objects_behind turn []) → ⊥
no_first object None first = first
no_first object (Some o) first = first

-- its course behind a wait
module _ (slot : ℕ) (e : Option Extent) (fresh : Bool) (s : Standing) (t : Track) (on : IsOnTrack slot e fresh s t) where
  joined_course : (site : SiteId) (image : ℕ) (sharing : Sharing) → (course_of slot t).place ≡ None → IsSomewhere slot t
      → course_of slot (waited_by slot t (wait.Join site image sharing)) ≡ waited (course_of slot t) (wait.Join site image sharing)
  joined_course site image sharing none (inl nowhere) =
      let nowhere_else : IsNowhereElse slot None t.lines = subst (λ q. IsNowhereElse slot q t.lines) nowhere on.elsewhere in
      course_joined slot t site image sharing nowhere (nowhere_else site image refl)
  joined_course site image sharing none (inr (p, m, there)) = absurd (none-some _ (sym none ∙ place_there slot p m t there))

  turned_course : (object : ℕ) → IsFirstObject object (objects_behind (course_of slot t).turn (course_of slot t).objects) → IsSomewhere slot t
      → course_of slot (waited_by slot t (wait.Turn object)) ≡ waited (course_of slot t) (wait.Turn object)
  turned_course object first (inl nowhere) =
      absurd (no_first object t.turn (subst (λ q. IsFirstObject object (objects_behind t.turn (course_in t.turn t.due q (member_of slot (line_in q t.lines))).objects)) nowhere first))
  turned_course object first (inr (p, m, there)) = course_turned slot p m t there object

  waited_course : (w : Wait) → MayWait fresh (course_of slot t) w → course_of slot (waited_by slot t w) ≡ waited (course_of slot t) w
  waited_course (wait.Join site image sharing) may = joined_course site image sharing may.1 on.somewhere
  waited_course (wait.Turn object) may = turned_course object may on.somewhere
  waited_course (wait.Hold site image) may = let (p, m, there) = in_line_there slot t site image on.somewhere may.0 in course_held slot p m t there site image
  waited_course (wait.Applied site image) may = let (p, m, there) = in_line_there slot t site image on.somewhere may in course_applied slot p m t there site image
  waited_course (wait.Leave site image) may = course_left slot t site image

  noted_course : (site : SiteId) (image : ℕ) → IsInLine site image (course_of slot t).place → course_of slot (track_noted slot t) ≡ noted (course_of slot t)
  noted_course site image in_line = let (p, m, there) = in_line_there slot t site image on.somewhere in_line in course_noted slot p m t there

module _ (slot : ℕ) (e : Option Extent) (labels : Label → Plan) where
  abbrev standing : Plan → Standing
  standing plan = record { labels = labels; plan = plan }

  way_tied : (plan : Plan) (fresh : Bool) (t : Track) (k : Knowledge) → IsOnTrack slot e fresh (standing (past_label labels plan)) t → IsTied k (course_of slot t)
      → IsTied (known_at_operation k plan) (course_of slot (run slot plan t))
  way_tied (Ask site why op next) fresh t k on tied = tied
  way_tied (Await w next) fresh t k on tied =
      let after = waited_on_track slot e labels fresh w next t on in
      way_tied next false (waited_by slot t w) (known_after_wait k w) after.1
      (subst (IsTied (known_after_wait k w)) (sym (waited_course slot e fresh (standing (Await w next)) t on w after.0)) (waited_tied fresh k (course_of slot t) w after.0 tied))
  way_tied (Note site image event next) fresh t k on tied =
      let after = noted_on_track slot e labels fresh site image event next t on in
      way_tied next fresh (track_noted slot t) k after.1
      (subst (IsTied k) (sym (noted_course slot e fresh (standing (Note site image event next)) t on site image after.0)) (noted_tied k (course_of slot t) tied))
  way_tied (Return reply) fresh t k on tied = tied
  way_tied (Goto label) fresh t k on tied = tied

  -- so it has its turns
  way_has : (plan : Plan) (fresh : Bool) (t : Track) (k : Knowledge) → IsOnTrack slot e fresh (standing (past_label labels plan)) t → IsTied k (course_of slot t) → HasItsTurns slot k t.lines
      → HasItsTurns slot (known_at_operation k plan) (run slot plan t).lines
  way_has (Ask site why op next) fresh t k on tied has = has
  way_has (Await w next) fresh t k on tied has =
      let after = waited_on_track slot e labels fresh w next t on in
      way_has next false (waited_by slot t w) (known_after_wait k w) after.1
      (subst (IsTied (known_after_wait k w)) (sym (waited_course slot e fresh (standing (Await w next)) t on w after.0)) (waited_tied fresh k (course_of slot t) w after.0 tied))
      (waited_has slot fresh t k w after.0 tied has)
  way_has (Note site image event next) fresh t k on tied has =
      let after = noted_on_track slot e labels fresh site image event next t on in
      way_has next fresh (track_noted slot t) k after.1
      (subst (IsTied k) (sym (noted_course slot e fresh (standing (Note site image event next)) t on site image after.0)) (noted_tied k (course_of slot t) tied))
      (noted_has slot t k has)
  way_has (Return reply) fresh t k on tied has = has
  way_has (Goto label) fresh t k on tied has = has

  pub behind_tied : (plan : Plan) (f : Fed) (t : Track) (k : Knowledge) → IsAsking plan → CanBeFed plan f → AreFair t.lines → IsOnTrack slot e true (standing plan) t
      → IsTied k (course_of slot t) → IsTied (known_behind k plan f) (course_of slot (run slot (plan_after plan f) (fed_by slot e t plan f)))
  behind_tied (Ask site why o next) (fed.Answer a) t k asks can fair on tied =
      way_tied (next a) true (answered_by slot e t site o a) (learned k site o a) (answered_on_track slot e labels true site why o next a t can fair on)
      (subst (IsTied (learned k site o a)) (sym (course_answered slot e t site o a on.somewhere))
      (answered_tied e k (course_of slot t) tied site o a (λ i own. quiet_before slot t on.somewhere fair on.turns site i own)))
  behind_tied (Ask site why o next) fed.Passed t k asks can fair on tied = absurd can
  behind_tied (Await w next) f t k asks can fair on tied = absurd asks
  behind_tied (Note site image event next) f t k asks can fair on tied = absurd asks
  behind_tied (Return reply) f t k asks can fair on tied = absurd asks
  behind_tied (Goto label) f t k asks can fair on tied = absurd asks

  -- and by what it is fed, where it may go on
  pub behind_has : (at : Label → Knowledge) (plan : Plan) (f : Fed) (t : Track) (k : Knowledge) → IsAsking plan → CanBeFed plan f → AreFair t.lines → IsOnTrack slot e true (standing plan) t
      → waits slot t ≡ false → IsLawful at k plan → IsTied k (course_of slot t) → KnowsInTurn k
      → HasItsTurns slot (known_behind k plan f) (run slot (plan_after plan f) (fed_by slot e t plan f)).lines
  behind_has at (Ask site why o next) (fed.Answer a) t k asks can fair on goes lawful tied in_turn =
      let after = answered_on_track slot e labels true site why o next a t can fair on in
      let tied_after = subst (IsTied (learned k site o a)) (sym (course_answered slot e t site o a on.somewhere))
      (answered_tied e k (course_of slot t) tied site o a (λ i own. quiet_before slot t on.somewhere fair on.turns site i own)) in
      way_has (next a) true (answered_by slot e t site o a) (learned k site o a) after tied_after
      (answered_has slot e t k site o a (turn_of_goes slot t goes) after.somewhere tied_after (answered_in_turn site k o a in_turn lawful.0))
  behind_has at (Ask site why o next) fed.Passed t k asks can fair on goes lawful tied in_turn = absurd can
  behind_has at (Await w next) f t k asks can fair on goes lawful tied in_turn = absurd asks
  behind_has at (Note site image event next) f t k asks can fair on goes lawful tied in_turn = absurd asks
  behind_has at (Return reply) f t k asks can fair on goes lawful tied in_turn = absurd asks
  behind_has at (Goto label) f t k asks can fair on goes lawful tied in_turn = absurd asks

-- ---- in its turn

way_in_turn : (plan : Plan) (k : Knowledge) → KnowsInTurn k → KnowsInTurn (known_at_operation k plan)
way_in_turn (Ask site why op next) k in_turn = in_turn
way_in_turn (Await w next) k in_turn = way_in_turn next (known_after_wait k w) (waited_in_turn k w in_turn)
way_in_turn (Note site image event next) k in_turn = way_in_turn next k in_turn
way_in_turn (Return reply) k in_turn = in_turn
way_in_turn (Goto label) k in_turn = in_turn

pub behind_in_turn : (at : Label → Knowledge) (plan : Plan) (f : Fed) (k : Knowledge) → IsAsking plan → CanBeFed plan f → IsLawful at k plan → KnowsInTurn k → KnowsInTurn (known_behind k plan f)
behind_in_turn at (Ask site why o next) (fed.Answer a) k asks can lawful in_turn = way_in_turn (next a) (learned k site o a) (answered_in_turn site k o a in_turn lawful.0)
behind_in_turn at (Ask site why o next) fed.Passed k asks can lawful in_turn = absurd can
behind_in_turn at (Await w next) f k asks can lawful in_turn = absurd asks
behind_in_turn at (Note site image event next) f k asks can lawful in_turn = absurd asks
behind_in_turn at (Return reply) f k asks can lawful in_turn = absurd asks
behind_in_turn at (Goto label) f k asks can lawful in_turn = absurd asks

-- ---- the turns of others

pub fed_keeps_turns : (slot : ℕ) → 1 ≤ slot → slot ≤ 64 → (e : Option Extent) (labels : Label → Plan) (plan : Plan) (f : Fed) (t : Track) → IsAsking plan → CanBeFed plan f → AreFair t.lines
    → waits slot t ≡ false → IsOnTrack slot e true (record { labels = labels; plan = plan }) t → KeepsTurns slot t.lines (run slot (plan_after plan f) (fed_by slot e t plan f)).lines
fed_keeps_turns slot from to e labels (Ask site why o next) (fed.Answer a) t asks can fair goes on =
    let rest = run_keeps_turns slot from to e labels (next a) true (answered_by slot e t site o a) (answered_on_track slot e labels true site why o next a t can fair on)
    (answered_by_fair slot e t site o a fair (λ s i own. passes s i own)) in
    λ other differ s i object is. rest other differ s i object (answered_keeps_turns slot e t site o a other differ s i object is)
  where
    at_own : (s : SiteId) (i : ℕ) (place : Option PlaceInLine) → looks_under_lock_at s i place ≡ true → awaits_look place ≡ true
    at_own s i None own = absurd (true≢false (sym own))
    at_own s i (Some p) own = (and_parts (is_at s i p.site p.image) (is_waiting p.stage) own).1

    passes : (s : SiteId) (i : ℕ) → looks_under_lock_at s i (course_of slot t).place ≡ true → may_pass slot (line_in t.place t.lines) ≡ true
    passes s i own = may_of (awaits_look (course_of slot t).place) (may_pass slot (line_in t.place t.lines)) (at_own s i (course_of slot t).place own) (or_parts (awaits_line slot t) (awaits_turn slot t) goes).0
fed_keeps_turns slot from to e labels (Ask site why o next) fed.Passed t asks can fair goes on = absurd can
fed_keeps_turns slot from to e labels (Await w next) f t asks can fair goes on = absurd asks
fed_keeps_turns slot from to e labels (Note site image event next) f t asks can fair goes on = absurd asks
fed_keeps_turns slot from to e labels (Return reply) f t asks can fair goes on = absurd asks
fed_keeps_turns slot from to e labels (Goto label) f t asks can fair goes on = absurd asks
