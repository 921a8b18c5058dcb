-- What a request knows of single objects it knows in its turn, up to its next operation, and others
-- keep their turns.
use Rattle.std.proofs.Common.{◌≡◌, inl, inr, ℕ, ◌≤◌, Bool, true, false, [], Option, Some, None, is_some, refl, sym, ap, ◌∙◌, subst}
use Rattle.std.specs.Prelude.{IsSome}
use Rattle.std.proofs.lemmas.Bool.{true≢false, and_parts}
use Rattle.std.proofs.lemmas.Option.{none-some}
use Rattle.rbd_machine.specs.Course.{looks_under_lock_at, is_waiting}
use Rattle.rbd_machine.specs.Orderly.{MayWait}
use Rattle.rbd_kinds.specs.declared.answer.Answer.{Answer}
use Rattle.rbd_kinds.specs.declared.id.SiteId.{SiteId}
use Rattle.rbd_kinds.specs.declared.layout.Extent.{Extent}
use Rattle.rbd_kinds.specs.declared.machine.Want.TheVariants as want
use Rattle.rbd_kinds.specs.declared.operation.Op.{Op}
use Rattle.rbd_queue.specs.Line.{has_turn, member_of, objects_in}
use Rattle.rbd_queue.specs.Turns.{begins_with}
use Rattle.rbd_machine.specs.Knowledge.{Knowledge, Own, learned, own_of, known_after_wait}
use Rattle.rbd_machine.specs.Label.{Label}
use Rattle.rbd_machine.specs.Plan.{Plan, Ask, Await, Note, Return, Goto, Standing, past_label}
use Rattle.rbd_machine.specs.Wait.{Wait}
use Rattle.rbd_machine.specs.Wait as wait
use Rattle.rbd_interference.specs.Truth.{header_of_own, is_own_alone, sharing_of_own}
use Rattle.rbd_interference.specs.Turns.{KnowsInTurn}
use Rattle.rbd_interference.proofs.Less.{IsLess, knew_of, waited_less}
use Rattle.rbd_interference.proofs.Turns.{applied_unknown, turned_unknown}
use Rattle.rbd_slots.specs.OnTrack.{AreFair, HasNext, IsNowhereElse, IsOnTrack, IsSomewhere}
use Rattle.rbd_slots.specs.Track.{Lines, Track, answered_by, course_of, line_in, track_noted, run, waited_by}
use Rattle.rbd_slots.proofs.Behind.{holds_none}
use Rattle.rbd_slots.proofs.Fairness.{passed_by_fair}
use Rattle.rbd_slots.proofs.Way.{noted_on_track, nowhere_course, place_there, waited_on_track, waiting_not_past}
use Rattle.rbd_knowledge.specs.Knowing.{HasItsTurns, KeepsTurns}
use Rattle.rbd_knowledge.specs.Tied.{IsTied}
use Rattle.rbd_knowledge.proofs.Along.{left_knows_none}
use Rattle.rbd_knowledge.proofs.There.{owner_there}
use Rattle.rbd_knowledge.proofs.Turning.{noted_keeps_turns, own_held, own_joined, own_noted, turn_answered, waited_keeps_turns}

-- ---- no turn before the look under the lock

pub quiet_before : (slot : ℕ) (t : Track) → IsSomewhere slot t → AreFair t.lines → HasNext slot t → (s : SiteId) (i : ℕ) → looks_under_lock_at s i (course_of slot t).place ≡ true → t.turn ≡ None
quiet_before slot t (inl nowhere) fair next s i own = absurd (true≢false (sym own ∙ ap (looks_under_lock_at s i) (nowhere_course slot t nowhere)))
quiet_before slot t (inr (p, m, there)) fair next s i own = by t.turn refl
  where
    waits : is_waiting m.stage ≡ true
    waits = (and_parts _ (is_waiting m.stage) (sym (ap (looks_under_lock_at s i) (place_there slot p m t there)) ∙ own)).1

    none : m.objects ≡ []
    none = holds_none slot (t.lines p.site p.image) m (fair p.site p.image) there.member (waiting_not_past m.stage waits)

    found : member_of slot (line_in t.place t.lines) ≡ Some m
    found = ap (λ q. member_of slot (line_in q t.lines)) there.place ∙ there.member

    by : (turn : Option ℕ) → t.turn ≡ turn → turn ≡ None
    by None is = refl
    by (Some object) is = absurd (true≢false (sym (next object is) ∙ ap (λ q. begins_with object (objects_in q)) found ∙ ap (begins_with object) none))

-- ---- its own turns

less_has : (slot : ℕ) (new old : Knowledge) (lines : Lines) → ((site : SiteId) → IsLess site new old) → HasItsTurns slot old lines → HasItsTurns slot new lines
less_has slot new old lines less has site image object some shared unflat knows =
    let same = (less site).owns image some in
    has site image object (ap (λ o. is_some (header_of_own o)) (sym same) ∙ some) (sym (ap is_own_alone same) ∙ shared) (λ flat. unflat (ap sharing_of_own same ∙ flat)) (knew_of site new old (less site) image object knows)

module _ (slot : ℕ) where
  pub waited_has : (fresh : Bool) (t : Track) (k : Knowledge) (w : Wait) → MayWait fresh (course_of slot t) w → IsTied k (course_of slot t) → HasItsTurns slot k t.lines
      → HasItsTurns slot (known_after_wait k w) (waited_by slot t w).lines
  waited_has fresh t k (wait.Join there of sharing) may tied has = λ site image object some shared unflat knows.
      own_joined slot object t there of sharing site image (less_has slot (known_after_wait k (wait.Join there of sharing)) k t.lines (λ s. waited_less s k (wait.Join there of sharing)) has site image object some shared unflat knows)
  waited_has fresh t k (wait.Hold there of) may tied has = λ site image object some shared unflat knows.
      own_held slot object t there of site image (less_has slot (known_after_wait k (wait.Hold there of)) k t.lines (λ s. waited_less s k (wait.Hold there of)) has site image object some shared unflat knows)
  waited_has fresh t k (wait.Turn at) may tied has = λ site image object some shared unflat knows. absurd (turned_unknown site k image object at knows)
  waited_has fresh t k (wait.Applied there of) may tied has = λ site image object some shared unflat knows. absurd (applied_unknown site there k image object of knows)
  waited_has fresh t k (wait.Leave there of) may tied has = λ site image object some shared unflat knows. absurd (left_knows_none k (course_of slot t) tied there of may site image some)

  pub noted_has : (t : Track) (k : Knowledge) → HasItsTurns slot k t.lines → HasItsTurns slot k (track_noted slot t).lines
  noted_has t k has site image object some shared unflat knows = own_noted slot object t site image (has site image object some shared unflat knows)

  -- behind an answer
  pub answered_has : (e : Option Extent) (t : Track) (k : Knowledge) (s : SiteId) (o : Op) (a : Answer)
      → ((object : ℕ) → t.turn ≡ Some object → has_turn slot object (line_in t.place t.lines) ≡ true)
      → IsSomewhere slot (answered_by slot e t s o a) → IsTied (learned k s o a) (course_of slot (answered_by slot e t s o a)) → KnowsInTurn (learned k s o a)
      → HasItsTurns slot (learned k s o a) (answered_by slot e t s o a).lines
  answered_has e t k s o a has somewhere tied in_turn site image object some shared unflat knows = by (own_of (learned k s o a).owns site image) refl some
    where
      after : Track
      after = answered_by slot e t s o a

      turn : after.turn ≡ Some object
      turn = sym (tied.turn site image some) ∙ in_turn.0 site image some shared unflat object knows

      by : (own : Option Own) → own_of (learned k s o a).owns site image ≡ own → IsSome (header_of_own own) → has_turn slot object (after.lines site image) ≡ true
      by None is some = absurd (true≢false (sym some))
      by (Some own) is some =
          subst (λ ms. has_turn slot object ms ≡ true) (owner_there slot site image own after somewhere (tied.owns site image own is)).line (turn_answered slot e t s o a has object turn)

-- ---- the turns of others

module _ (slot : ℕ) (from : 1 ≤ slot) (to : slot ≤ 64) (e : Option Extent) (labels : Label → Plan) where
  abbrev standing : Plan → Standing
  standing plan = record { labels = labels; plan = plan }

  waited_fair : (fresh : Bool) (t : Track) (old : Standing) (w : Wait) → IsOnTrack slot e fresh old t → MayWait fresh (course_of slot t) w → AreFair t.lines → AreFair (waited_by slot t w).lines
  waited_fair fresh t old (wait.Join site image sharing) on may fair = passed_by_fair slot from to t (want.Join site image sharing) fair (joins on.somewhere)
    where
      joins : IsSomewhere slot t → (t.place ≡ None) × (member_of slot (t.lines site image) ≡ None)
      joins (inl nowhere) = (nowhere, subst (λ q. IsNowhereElse slot q t.lines) nowhere on.elsewhere site image refl)
      joins (inr (p, m, there)) = absurd (none-some _ (sym may.1 ∙ place_there slot p m t there))
  waited_fair fresh t old (wait.Hold site image) on may fair = passed_by_fair slot from to t (want.Hold site image) fair tt
  waited_fair fresh t old (wait.Turn object) on may fair = passed_by_fair slot from to t (want.Turn object) fair tt
  waited_fair fresh t old (wait.Applied site image) on may fair = passed_by_fair slot from to t (want.Applied site image) fair tt
  waited_fair fresh t old (wait.Leave site image) on may fair = passed_by_fair slot from to t (want.Leave site image) fair tt

  pub run_keeps_turns : (plan : Plan) (fresh : Bool) (t : Track) → IsOnTrack slot e fresh (standing (past_label labels plan)) t → AreFair t.lines → KeepsTurns slot t.lines (run slot plan t).lines
  run_keeps_turns (Ask site why op next) fresh t on fair = λ other differ site image object is. is
  run_keeps_turns (Await w next) fresh t on fair =
      let after = waited_on_track slot e labels fresh w next t on in
      let rest = run_keeps_turns next false (waited_by slot t w) after.1 (waited_fair fresh t (standing (Await w next)) w on after.0 fair) in
      λ other differ site image object is. rest other differ site image object (waited_keeps_turns slot t w other differ site image object is)
  run_keeps_turns (Note site image event next) fresh t on fair =
      let after = noted_on_track slot e labels fresh site image event next t on in
      let rest = run_keeps_turns next fresh (track_noted slot t) after.1 (passed_by_fair slot from to t (want.Note site image) fair on.takes) in
      λ other differ s i object is. rest other differ s i object (noted_keeps_turns slot t fair on.takes other differ s i object is)
  run_keeps_turns (Return reply) fresh t on fair = λ other differ site image object is. is
  run_keeps_turns (Goto label) fresh t on fair = λ other differ site image object is. is
