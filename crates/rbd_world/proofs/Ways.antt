-- The operations of a line on its way to the lock go with the state of its slot: where a happening
-- is none of its own, where its way begins and goes on, and where it goes on itself.
use Rattle.std.proofs.Common.{◌≡◌, ◌⊎◌, inl, inr, ℕ, ◌==◌, ◌||◌, cond, Bool, true, false, List, [], ◌∷◌, ◌++◌, Option, Some, None, is_some, refl, sym, ap, ◌∙◌, subst}
use Rattle.std.proofs.lemmas.Bool.{true≢false}
use Rattle.std.proofs.lemmas.Option.{same_Some}
use Rattle.rbd_client.specs.declared.actor.Actor.TheVariants as actor
use Rattle.rbd_client.specs.declared.slot_state.SlotState.{SlotState}
use Rattle.rbd_client.specs.declared.slot_state.Way.{Way}
use Rattle.rbd_client.specs.declared.slot_state.Way.TheVariants as way
use Rattle.rbd_client.specs.Actor.{actor_at, actor_at_look, actor_by, actor_on, due_release, release_actor}
use Rattle.rbd_client.specs.Client.{ClientView, slot_state}
use Rattle.rbd_client.specs.Feeding.{GoesOnItsWay, RefusesIt, TakesTheLock, WayComesTo, state_behind}
use Rattle.rbd_client.specs.Sound.{IsSoundClient, IsWellOnWay, WaitsForLook}
use Rattle.rbd_client.proofs.OnWay.{is_way, way_or, way_waits, releases_no_way}
use Rattle.rbd_client.proofs.Requests.{acts_by_way, is_request, stands_at_look}
use Rattle.rbd_machine.specs.Course.{Course, PlaceInLine, answered, is_newcomer_at, is_waiting, has_just_joined, looks_under_lock_at, course_past_look, past}
use Rattle.rbd_machine.specs.Orderly.{IsOrderly}
use Rattle.rbd_kinds.specs.declared.answer.Answer.{Answer}
use Rattle.rbd_kinds.specs.declared.answer.Answer.TheVariants as answer
use Rattle.rbd_kinds.specs.declared.header.HeaderView.{HeaderView}
use Rattle.rbd_kinds.specs.declared.header_op.HeaderOp.TheVariants as header
use Rattle.rbd_kinds.specs.declared.id.Instance.{Instance}
use Rattle.rbd_kinds.specs.declared.id.SiteId.{SiteId}
use Rattle.rbd_kinds.specs.declared.image_at.ImageAt.{ImageAt}
use Rattle.rbd_kinds.specs.declared.layout.Extent.{Extent}
use Rattle.rbd_kinds.specs.declared.machine.Fed.{Fed}
use Rattle.rbd_kinds.specs.declared.machine.Fed.TheVariants as fed
use Rattle.rbd_kinds.specs.declared.operation.Op.{Op}
use Rattle.rbd_kinds.specs.declared.operation.Op.TheVariants as op
use Rattle.rbd_kinds.specs.declared.reply.Reply.{Reply}
use Rattle.rbd_kinds.specs.declared.reply.Reply.TheVariants as reply
use Rattle.rbd_queue.specs.Line.{member_of}
use Rattle.rbd_lock.specs.declared.lock_state.LockState.{LockState}
use Rattle.rbd_lock.specs.Locks.{lock_state_at}
use Rattle.rbd_machine.specs.Answers.{CanBeFed, CanGive}
use Rattle.rbd_machine.specs.Label.{Label}
use Rattle.rbd_machine.specs.Label as label
use Rattle.rbd_machine.specs.Path.{Answered, IsWalk, at_operation}
use Rattle.rbd_machine.specs.Plan.{Plan, Ask, Await, Return, IsAsking, IsClosed, Standing, plan_after, past_label}
use Rattle.rbd_machine.specs.Steps.{EndsIt, not_there}
use Rattle.rbd_machine.specs.declared.seat.Seat.{Seat}
use Rattle.rbd_machine.specs.Wait as wait
use Rattle.rbd_machine.specs.declared.reason.Reason.{Reason}
use Rattle.rbd_machine.specs.declared.reason.Reason.TheVariants as reason
use Rattle.rbd_lock.specs.Acquire.{acquire, begun_way, lock_labels, op_at_stage, op_of, rest_at, rest_of_acquire}
use Rattle.rbd_lock.specs.Release.{release_op, release_op_at}
use Rattle.rbd_lock.specs.declared.acquire.Acquire.{Acquire}
use Rattle.rbd_lock.specs.declared.acquire.Stage.{Stage}
use Rattle.rbd_lock.specs.declared.acquire.Stage.TheVariants as stage
use Rattle.rbd_lock.specs.declared.release.Release.{Release}
use Rattle.rbd_lock.specs.declared.release.Stage.{Stage as ReleaseStage}
use Rattle.rbd_lock.specs.declared.release.Stage.TheVariants as letting
use Rattle.rbd_slots.specs.declared.running.Occupant.{Occupant}
use Rattle.rbd_slots.specs.declared.running.Occupant.TheVariants as occupant
use Rattle.rbd_slots.specs.declared.running.Running.{Running}
use Rattle.rbd_slots.specs.Advance.{fed_by, track_of}
use Rattle.rbd_slots.specs.Lines.{LinesView, lines_of}
use Rattle.rbd_slots.specs.OnTrack.{IsOnTrack}
use Rattle.rbd_slots.specs.Session.{OfRunning, held_in, is_look_at, kind_asked, look_under_lock_at, running_at, running_in, script_line}
use Rattle.rbd_slots.specs.Track.{Track, answered_by, course_of, line_in, place_in, run as run_on}
use Rattle.rbd_slots.proofs.Track.{course_answered}
use Rattle.rbd_slots.proofs.Way.{answered_on_track, nowhere_course}
use Rattle.rbd_slots.specs.Waits.{waits}
use Rattle.rbd_world.specs.Run.{Happening, steps_of, way_of}
use Rattle.rbd_world.specs.Sound.{IsUnderWay, KeepsToItsWay, place_of_request}
use Rattle.rbd_world.specs.Ways.{AsksNext, AgreesWithWay, IsOfRelease, IsOver, IsPastItsWay, IsWayThere, LooksAtItsOwn, TookTheLock, WasRefused, awaits_its_look}
use Rattle.rbd_catalog.specs.Looking.{HoldsNoMore, Holds, HoldsNext, IsLast, Looked, is_read}
use Rattle.rbd_catalog.specs.Profile.{joins_a_line, profile}
use Rattle.rbd_catalog.proofs.Looks.{looks_once, looks_refuse, pieces_hold_no_more}
use Rattle.rbd_catalog.proofs.LooksNone.{holds_at_operation}
use Rattle.rbd_knowledge.proofs.NoReads.{changes_are_no_reads}
use Rattle.rbd_knowledge.specs.Calm.{IsCalm}
use Rattle.rbd_world.proofs.Answered.{answered_place, calm_next, calm_place}
use Rattle.rbd_world.proofs.OwnLook.{IsToldHeader, answered_own, ended_by_look, look_behind, own_run, past_answered, past_run, told_header}
use Rattle.rbd_world.proofs.Quiet.{IsQuiet, way_on}
use Rattle.rbd_world.proofs.RefusedOnWay.{LooksAt, looks_at, reads_not}
use Rattle.rbd_world.proofs.Walks.{walk_append}

abbrev end : Plan
end = Return reply.Done

-- ---- where a happening is none of the line's

module _ {R : Type 0} (stands : R → Standing) (h : Happening) (run : List Happening) where
  pub ways_on : (slot : ℕ) (lines : LinesView) (w : Way) (o : Option (Occupant R)) → ((line : ℕ) → script_line o ≡ Some line → IsQuiet line h) → KeepsToItsWay stands run slot lines w (running_in o)
      → KeepsToItsWay stands (h ∷ run) slot lines w (running_in o)
  ways_on slot lines w None quiet keeps = tt
  ways_on slot lines w (Some (occupant.Refused line refusal)) quiet keeps = tt
  ways_on slot lines w (Some (occupant.Running r)) quiet keeps =
      (keeps.0, subst (AgreesWithWay (stands r.request) (place_of_request slot lines r) w) (sym (way_on r.line h run (quiet r.line refl))) keeps.1)

-- and where its slot stands in each line as it did
module _ {R : Type 0} (stands : R → Standing) (run : List Happening) (slot : ℕ) (old new : LinesView)
    (same : (s : SiteId) (image : ℕ) → member_of slot (lines_of new s image) ≡ member_of slot (lines_of old s image)) where
  place_stays : (r : Running R) → place_of_request slot new r ≡ place_of_request slot old r
  place_stays r = by r.place
    where
      by : (p : Option ImageAt) → place_in p (member_of slot (line_in p (lines_of new))) ≡ place_in p (member_of slot (line_in p (lines_of old)))
      by None = refl
      by (Some p) = ap (place_in (Some p)) (same p.site p.image)

  pub ways_in : (w : Way) (o : Option (Occupant R)) → KeepsToItsWay stands run slot old w (running_in o) → KeepsToItsWay stands run slot new w (running_in o)
  ways_in w None keeps = tt
  ways_in w (Some (occupant.Refused line refusal)) keeps = tt
  ways_in w (Some (occupant.Running r)) keeps =
      subst (λ place. LooksAtItsOwn place (stands r.request).plan × AgreesWithWay (stands r.request) place w (way_of r.line run)) (sym (place_stays r)) keeps

-- ---- one step more on a way

one_more : (labels : Label → Plan) (plan last : Plan) (feds : List Fed) (steps : List Answered) (s : SiteId) (why : Reason) (o : Op) (next : Answer → Plan) (told : Answer)
    → IsWalk labels plan feds steps (Ask s why o next) → past_label labels (next told) ≡ last
    → IsWalk labels plan (feds ++ fed.Answer told ∷ []) (steps ++ record { site = s; op = o; answer = told } ∷ []) last
one_more labels plan last feds steps s why o next told walk is =
    walk_append labels feds plan (Ask s why o next) last (fed.Answer told ∷ []) steps (record { site = s; op = o; answer = told } ∷ []) walk (record { rest = []; is = refl }, (refl, sym is))

pub one_step_more : (site : SiteId) (image : ℕ) (steps : List Answered) (s : SiteId) (why : Reason) (o : Op) (next : Answer → Plan) (told : Answer) (last : Plan)
    → IsWayThere site image steps (Ask s why o next) → past_label (lock_labels site image) (next told) ≡ last
    → IsWayThere site image (steps ++ record { site = s; op = o; answer = told } ∷ []) last
one_step_more site image steps s why o next told last there is = record {
  watched = there.watched;
  feds = there.feds ++ fed.Answer told ∷ [];
  walk = one_more (lock_labels site image) (acquire site image there.watched end) last there.feds steps s why o next told there.walk is;
}

-- ---- what a way asks for

record Asked (s : Stage) (site : SiteId) (image : ℕ) : Type 0 where
  next : Answer → Plan
  is : rest_at s site image end ≡ Ask site reason.Acquiring (op_at_stage s image) next

asked_at : (s : Stage) (site : SiteId) (image : ℕ) → Asked s site image
asked_at stage.Watching site image = record { next = _; is = refl }
asked_at stage.Taking site image = record { next = _; is = refl }
asked_at (stage.Looking owner) site image = record { next = _; is = refl }
asked_at stage.Asking site image = record { next = _; is = refl }
asked_at (stage.Fencing owner) site image = record { next = _; is = refl }
asked_at (stage.Breaking owner) site image = record { next = _; is = refl }

module _ (a : Acquire) (steps : List Answered) (there : IsWayThere a.site a.image steps (rest_of_acquire a end)) where
  abbrev asks : Asked a.stage a.site a.image
  asks = asked_at a.stage a.site a.image

  stands_there : IsWayThere a.site a.image steps (Ask a.site reason.Acquiring (op_of a) asks.next)
  stands_there = subst (IsWayThere a.site a.image steps) asks.is there

  pub asks_next : AsksNext a.site (op_of a) steps
  asks_next = record { image = a.image; why = reason.Acquiring; next = asks.next; way = stands_there }

  module _ (told : Answer) where
    abbrev more : List Answered
    more = steps ++ record { site = a.site; op = op_of a; answer = told } ∷ []

    goes_to : (last : Plan) → past_label (lock_labels a.site a.image) (plan_after (rest_of_acquire a end) (fed.Answer told)) ≡ last → IsWayThere a.site a.image more last
    goes_to last is =
        one_step_more a.site a.image steps a.site reason.Acquiring (op_of a) asks.next told last stands_there
        (sym (ap (λ p. past_label (lock_labels a.site a.image) (plan_after p (fed.Answer told))) asks.is) ∙ is)

    way_further : (b : Acquire) → GoesOnItsWay a (fed.Answer told) b → IsWayThere b.site b.image more (rest_of_acquire b end)
    way_further b goes =
        subst (λ s. IsWayThere s b.image more (rest_of_acquire b end)) (sym goes.site)
        (subst (λ i. IsWayThere a.site i more (rest_of_acquire b end)) (sym goes.image)
        (goes_to (rest_of_acquire b end) (sym (goes.goes (lock_labels a.site a.image) end refl).is)))

    way_to_lock : (p : ImageAt) → TakesTheLock a (fed.Answer told) p → IsWayThere p.site p.image more end
    way_to_lock p takes =
        subst (λ s. IsWayThere s p.image more end) (sym takes.site)
        (subst (λ i. IsWayThere a.site i more end) (sym takes.image)
        (goes_to end
        (ap (λ f. past_label (lock_labels a.site a.image) (plan_after (rest_of_acquire a end) f)) takes.done
        ∙ ap (λ s. past_label (lock_labels a.site a.image) (plan_after (rest_at s a.site a.image end) (fed.Answer answer.Done))) takes.asked)))

    pub way_goes_on : (left : Standing) (place : Option PlaceInLine) (w : Way) → WayComesTo a (fed.Answer told) None w → AgreesWithWay left place w more
    way_goes_on left place (way.On b) goes = way_further b goes
    way_goes_on left place (way.Taken p) takes = way_to_lock p takes
    way_goes_on left place way.Unbegun comes = absurd comes

    pub way_refused : (r : Reply) → RefusesIt a (fed.Answer told) r → WasRefused a.site r more
    way_refused (reply.Refused x) refuses =
        record { image = a.image; way = goes_to (Return (reply.Refused x)) (ap (past_label (lock_labels a.site a.image)) (refuses end)) }
    way_refused _ refuses = absurd refuses

-- ---- where a way begins

begins_there : (site : SiteId) (image : ℕ) (watched : Bool) → IsWayThere site image [] (rest_of_acquire (begun_way site image watched) end)
begins_there site image watched = record { watched = watched; feds = []; walk = (refl, by watched) }
  where
    by : (b : Bool) → rest_of_acquire (begun_way site image b) end ≡ acquire site image b end
    by true = refl
    by false = refl

begins_by : (s : LockState) (p : ImageAt) (a : Acquire) → actor_by s p.site p.image ≡ actor.Way a → IsWayThere a.site a.image [] (rest_of_acquire a end)
begins_by s p a = go (s.quiesced || s.asked) s.owned
  where
    go : (held o : Bool) → cond held actor.Nobody (cond o actor.Request (actor.Way (begun_way p.site p.image s.watched))) ≡ actor.Way a → IsWayThere a.site a.image [] (rest_of_acquire a end)
    go true o is = absurd (true≢false (sym (ap is_way is)))
    go false true is = absurd (true≢false (sym (ap is_way is)))
    go false false is = subst (λ (x : Acquire). IsWayThere x.site x.image [] (rest_of_acquire x end)) (ap (way_or a) is) (begins_there p.site p.image s.watched)

-- who stands at its look under the lock waits for it
module _ {R : Type 0} (stands : R → Standing) (slot : ℕ) (c : ClientView R) (r : Running R) (runs : running_at slot c.session ≡ Some r) where
  awaits_there : (site : SiteId) (image : ℕ) → WaitsForLook stands slot site image c.session → awaits_its_look (place_of_request slot c.session.lines r) ≡ true
  awaits_there site image waiting =
      ap (λ p. awaits_its_look (place_in p (member_of slot (line_in p (lines_of c.session.lines)))))
      (sym (ap (λ (q : Running R). q.place) (same_Some waiting.request r (sym waiting.runs ∙ runs))) ∙ waiting.place)
      ∙ ap (λ o. awaits_its_look (place_in (Some (record { site = site; image = image })) o)) waiting.found ∙ ap is_waiting waiting.waits

module _ {R : Type 0} (stands : R → Standing) (slot : ℕ) (c : ClientView R) (sound : IsSoundClient stands c) (r : Running R) (runs : running_at slot c.session ≡ Some r) (steps : List Answered)
    (keeps : AgreesWithWay (stands r.request) (place_of_request slot c.session.lines r) (slot_state slot c.slots).way steps) where
  -- ---- its way acts

  pub way_acts : (a : Acquire) → actor_at stands slot c ≡ actor.Way a → IsWayThere a.site a.image steps (rest_of_acquire a end)
  way_acts a acts = by (slot == 0) acts
    where
      waiting : WaitsForLook stands slot a.site a.image c.session
      waiting = way_waits stands slot c a sound acts

      nothing_yet : (steps ≡ []) ⊎ IsPastItsWay (stands r.request) (place_of_request slot c.session.lines r) steps → steps ≡ []
      nothing_yet (inl none) = none
      nothing_yet (inr past) = absurd (true≢false (sym (awaits_there stands slot c r runs a.site a.image waiting) ∙ past.past))

      looking : (look : Option ImageAt) → steps ≡ [] → actor_at_look look c.locks ≡ actor.Way a → IsWayThere a.site a.image steps (rest_of_acquire a end)
      looking None none is = absurd (true≢false (sym (ap is_way is)))
      looking (Some p) none is = subst (λ xs. IsWayThere a.site a.image xs (rest_of_acquire a end)) (sym none) (begins_by (lock_state_at p.site p.image c.locks) p a is)

      on : (w : Way) → AgreesWithWay (stands r.request) (place_of_request slot c.session.lines r) w steps → actor_on w (look_under_lock_at stands slot c.session) c.locks ≡ actor.Way a → IsWayThere a.site a.image steps (rest_of_acquire a end)
      on way.Unbegun off is = looking (look_under_lock_at stands slot c.session) (nothing_yet off) is
      on (way.On b) there is = subst (λ (x : Acquire). IsWayThere x.site x.image steps (rest_of_acquire x end)) (ap (way_or a) is) there
      on (way.Taken p) there is = absurd (true≢false (sym (ap is_way is)))

      by : (b : Bool) → cond b (release_actor c.release (due_release c)) (actor_on (slot_state slot c.slots).way (look_under_lock_at stands slot c.session) c.locks) ≡ actor.Way a
          → IsWayThere a.site a.image steps (rest_of_acquire a end)
      by true is = absurd (true≢false (sym (ap is_way is) ∙ releases_no_way c.release (due_release c)))
      by false is = on (slot_state slot c.slots).way keeps is

  -- ---- it acts itself

  module _ (acts : actor_at stands slot c ≡ actor.Request) where
    not_on : (b : Acquire) → (slot_state slot c.slots).way ≡ way.On b → ⊥
    not_on b is = true≢false (sym (acts_by_way stands slot c acts) ∙ ap (λ w. is_request (actor_on w (look_under_lock_at stands slot c.session) c.locks)) is)

    pub way_is_over : IsOver steps
    way_is_over = by (slot_state slot c.slots).way refl keeps
      where
        by : (w : Way) → (slot_state slot c.slots).way ≡ w → AgreesWithWay (stands r.request) (place_of_request slot c.session.lines r) w steps → IsOver steps
        by way.Unbegun is (inl none) = inl none
        by way.Unbegun is (inr past) = inr past.took
        by (way.On b) is there = absurd (not_on b is)
        by (way.Taken p) is there = inr (record { site = p.site; image = p.image; way = there })

-- ---- behind its look under the lock

-- who is refused asks for nothing
not_asking : (labels : Label → Plan) (a : Answer) → IsAsking (at_operation labels (not_there a)) → ⊥
not_asking labels answer.Fenced asks = asks
not_asking labels _ asks = asks

newcomer_behind : (e : Option Extent) (k : Course) (site : SiteId) (o : Op) (a : Answer) → is_newcomer_at k.place ≡ false → is_newcomer_at (answered e k site o a).place ≡ false
newcomer_behind e k site (op.Header image header.Get) (answer.Header h) none = by (looks_under_lock_at site image k.place)
  where
    past_is : (p : _) → is_newcomer_at (past p) ≡ false
    past_is None = refl
    past_is (Some q) = refl

    by : (b : Bool) → is_newcomer_at (cond b (course_past_look e h k) k).place ≡ false
    by true = past_is k.place
    by false = none
newcomer_behind e k site o a none = none

holds_no_more : (e : Option Extent) (at : Label → Course) (k : Course) (p : Plan) → is_newcomer_at k.place ≡ false → IsOrderly e at true k p → HoldsNext p → ⊥
holds_no_more e at k (Await (wait.Hold site image) next) none orderly holds = true≢false (sym orderly.0.1 ∙ none)
holds_no_more e at k (Ask site why o next) none orderly (a, (can, holds)) = holds_no_more e at (answered e k site o a) (next a) (newcomer_behind e k site o a none) (orderly.1 a can) holds
holds_no_more e at k p none orderly holds = holds

module _ {R : Type 0} (stands : R → Standing) (slot : ℕ) (c : ClientView R) (sound : IsSoundClient stands c) (r : Running R) (runs : running_at slot c.session ≡ Some r)
    (seat : Seat) (who : Instance) (run : List Happening) (under : IsUnderWay stands seat who run r) (a : Answer) (can : CanBeFed (stands r.request).plan (fed.Answer a)) where
  abbrev labels : Label → Plan
  labels = (stands r.request).labels

  abbrev before : Track
  before = track_of r c.session.lines

  -- where it stands behind the answer
  abbrev standing_behind : Plan → Standing
  standing_behind p = record { labels = labels; plan = at_operation labels (plan_after p (fed.Answer a)) }

  abbrev place_behind : Plan → Option PlaceInLine
  place_behind p = (course_of slot (run_on slot (plan_after p (fed.Answer a)) (fed_by slot r.extent before p (fed.Answer a)))).place

  module _ (s : SiteId) (why : Reason) (o : Op) (next : Answer → Plan) (asks : (stands r.request).plan ≡ Ask s why o next) where
    can_give : CanGive o a
    can_give = subst (λ p. CanBeFed p (fed.Answer a)) asks can

    on_before : IsOnTrack slot r.extent true (record { labels = labels; plan = Ask s why o next }) before
    on_before =
        let on = sound.session.runs slot r runs in
        record {
          somewhere = on.somewhere;
          elsewhere = on.elsewhere;
          orderly = record {
            at = on.orderly.at;
            orderly = subst (IsOrderly r.extent on.orderly.at true (course_of slot before)) asks on.orderly.orderly;
            closed = subst (IsClosed labels) asks on.orderly.closed;
            labels = on.orderly.labels;
          };
          takes = on.takes;
          turns = on.turns;
        }

    on_behind : IsOnTrack slot r.extent true (record { labels = labels; plan = past_label labels (next a) }) (answered_by slot r.extent before s o a)
    on_behind = answered_on_track slot r.extent labels true s why o next a before can_give sound.session.fair on_before

    place_answered : (course_of slot (answered_by slot r.extent before s o a)).place ≡ (answered r.extent (course_of slot before) s o a).place
    place_answered = ap (λ (k : Course). k.place) (course_answered slot r.extent before s o a on_before.somewhere)

    -- who waits for no lock any more stays past its look
    past_then : HoldsNoMore (next a) → awaits_its_look (answered r.extent (course_of slot before) s o a).place ≡ false
        → awaits_its_look (course_of slot (run_on slot (next a) (answered_by slot r.extent before s o a))).place ≡ false
    past_then holds none = past_run slot r.extent labels true (next a) (answered_by slot r.extent before s o a) on_behind holds (ap awaits_its_look place_answered ∙ none)

    walks_here : IsWalk under.start.labels under.start.plan under.feds (steps_of r.line run) (Ask s why o next)
    walks_here = subst (IsWalk under.start.labels under.start.plan under.feds (steps_of r.line run)) asks under.walk

    -- and who waits for its look looks at its own image first
    module _ (own : LooksAtItsOwn (course_of slot before).place (stands r.request).plan) where
      abbrev OwnThen : Type 0
      OwnThen = LooksAtItsOwn (course_of slot (run_on slot (next a) (answered_by slot r.extent before s o a))).place (at_operation labels (next a))

      own_of_change : is_read under.begun.asked.command ≡ false → OwnThen
      own_of_change other =
          own_run slot r.extent labels true (next a) (answered_by slot r.extent before s o a) on_behind
          (looks_once seat under.begun.asked.command under.start under.feds (steps_of r.line run) (Ask s why o next) under.plan other walks_here a).1
          (subst (λ place. LooksAtItsOwn place (next a)) (sym place_answered)
          (answered_own r.extent (course_of slot before) s why next o a (subst (LooksAtItsOwn (course_of slot before).place) asks own)
          (ended_by_look o a next can_give
          (λ i is ends.
          looks_refuse seat under.begun.asked.command under.start under.feds (steps_of r.line run) s why i next a under.plan other
          (subst (λ q. IsWalk under.start.labels under.start.plan under.feds (steps_of r.line run) (Ask s why q next)) is walks_here) ends))))

      own_of_calm : IsCalm (stands r.request).plan → r.place ≡ None → OwnThen
      own_of_calm calm nowhere =
          subst (λ place. LooksAtItsOwn place (at_operation labels (next a)))
          (sym
          (nowhere_course slot (run_on slot (next a) (answered_by slot r.extent before s o a))
          (calm_place slot (next a) (answered_by slot r.extent before s o a) (calm_next s why o next a (stands r.request).plan asks calm) ∙ answered_place slot r.extent before s o a ∙ nowhere)))
          tt

      pub own_behind : OwnThen
      own_behind = by (joins_a_line (profile under.begun.asked.command)) refl
        where
          by : (b : Bool) → joins_a_line (profile under.begun.asked.command) ≡ b → OwnThen
          by true is = own_of_change (changes_are_no_reads under.begun.asked.command is)
          by false is = own_of_calm (under.calm is).0.plan (under.calm is).1

  -- at its look under the lock it is answered, and is past it
  module _ (site : SiteId) (image : ℕ) (waiting : WaitsForLook stands slot site image c.session) where
    same : waiting.request ≡ r
    same = same_Some waiting.request r (sym waiting.runs ∙ runs)

    place_is : r.place ≡ Some (record { site = site; image = image })
    place_is = sym (ap (λ (q : Running R). q.place) same) ∙ waiting.place

    look : LooksAt site (stands r.request).plan
    look = looks_at site (stands r.request).plan (subst (λ (q : Running R). is_look_at site (kind_asked (stands q.request).plan) ≡ true) same waiting.wants)

    walks_there : IsWalk under.start.labels under.start.plan under.feds (steps_of r.line run) (Ask site look.why (op.Header look.image header.Get) look.next)
    walks_there = subst (IsWalk under.start.labels under.start.plan under.feds (steps_of r.line run)) look.is under.walk

    waits_there : is_newcomer_at (course_of slot (track_of r c.session.lines)).place ≡ false
    waits_there =
        ap (λ p. is_newcomer_at (place_in p (member_of slot (line_in p (lines_of c.session.lines))))) place_is
        ∙ ap (λ o. is_newcomer_at (place_in (Some (record { site = site; image = image })) o)) waiting.found
        ∙ ap has_just_joined waiting.waits

    no_read : is_read under.begun.asked.command ≡ false
    no_read = reads_not stands seat who run r under _ place_is

    waits_no_more : HoldsNoMore (look.next a)
    waits_no_more = by ((looks_once seat under.begun.asked.command under.start under.feds (steps_of r.line run) (Ask site look.why (op.Header look.image header.Get) look.next) under.plan
        no_read walks_there a).0)
      where
        on : IsOnTrack slot r.extent true (stands r.request) (track_of r c.session.lines)
        on = sound.session.runs slot r runs

        orderly : IsOrderly r.extent on.orderly.at true (course_of slot (track_of r c.session.lines)) (Ask site look.why (op.Header look.image header.Get) look.next)
        orderly = subst (IsOrderly r.extent on.orderly.at true (course_of slot (track_of r c.session.lines))) look.is on.orderly.orderly

        by : Looked site look.image (look.next a) → HoldsNoMore (look.next a)
        by (IsLast holds elsewhere) = holds
        by (Holds holds) =
            absurd
            (holds_no_more r.extent on.orderly.at (answered r.extent (course_of slot (track_of r c.session.lines)) site (op.Header look.image header.Get) a) (look.next a)
            (newcomer_behind r.extent (course_of slot (track_of r c.session.lines)) site (op.Header look.image header.Get) a waits_there)
            (orderly.1 a (subst (λ p. CanBeFed p (fed.Answer a)) look.is can)) holds)

    -- no piece of its waits for a lock
    pieces_past : (t : SiteId) (i : ℕ) (h : HeaderView) (bits : List ℕ) (number : ℕ) → HoldsNoMore (labels (label.Piece t i h bits number))
    pieces_past t i h bits number =
        subst (λ ls. HoldsNoMore (ls (label.Piece t i h bits number))) (sym under.labels) (pieces_hold_no_more seat under.begun.asked.command under.start t i h bits number under.plan no_read)

    pub past_look : LooksAtItsOwn (course_of slot before).place (stands r.request).plan → IsAsking (standing_behind (stands r.request).plan).plan → (steps : List Answered) → TookTheLock steps
        → IsPastItsWay (standing_behind (stands r.request).plan) (place_behind (stands r.request).plan) steps
    past_look own further steps took =
        subst (λ p. IsPastItsWay (standing_behind p) (place_behind p) steps) (sym look.is)
        (record {
          took = took;
          holds = holds_at_operation labels pieces_past (look.next a) waits_no_more;
          pieces = pieces_past;
          past = past_then site look.why (op.Header look.image header.Get) look.next look.is waits_no_more past_there;
        })
      where
        further_there : IsAsking (at_operation labels (look.next a))
        further_there = subst (λ p. IsAsking (at_operation labels (plan_after p (fed.Answer a)))) look.is further

        ends_not : EndsIt a → ⊥
        ends_not ends =
            not_asking labels a
            (subst (λ p. IsAsking (at_operation labels p))
            (looks_refuse seat under.begun.asked.command under.start under.feds (steps_of r.line run) site look.why look.image look.next a under.plan no_read walks_there ends) further_there)

        told : IsToldHeader a
        told = told_header look.image a (subst (λ p. CanBeFed p (fed.Answer a)) look.is can) ends_not

        past_there : awaits_its_look (answered r.extent (course_of slot before) site (op.Header look.image header.Get) a).place ≡ false
        past_there =
            subst (λ x. awaits_its_look (answered r.extent (course_of slot before) site (op.Header look.image header.Get) x).place ≡ false) (sym told.is)
            (look_behind r.extent (course_of slot before) site look.why look.next look.image told.told (subst (LooksAtItsOwn (course_of slot before).place) look.is own))

  -- it goes on itself, and its slot's state with it
  module _ (steps : List Answered) (own : LooksAtItsOwn (course_of slot before).place (stands r.request).plan)
      (keeps : AgreesWithWay (stands r.request) (course_of slot before).place (slot_state slot c.slots).way steps) (acts : actor_at stands slot c ≡ actor.Request)
      (goes : OfRunning (λ q. waits slot (track_of q c.session.lines) ≡ false) (held_in slot c.session.slots))
      (s : SiteId) (why : Reason) (o : Op) (next : Answer → Plan) (asks : (stands r.request).plan ≡ Ask s why o next) (further : IsAsking (at_operation labels (next a))) where
    abbrev left : Standing
    left = standing_behind (Ask s why o next)

    abbrev place_then : Option PlaceInLine
    place_then = place_behind (Ask s why o next)

    further_so : IsAsking (standing_behind (stands r.request).plan).plan
    further_so = subst (λ p. IsAsking (standing_behind p).plan) (sym asks) further

    past_on : IsPastItsWay (stands r.request) (course_of slot before).place steps → IsPastItsWay left place_then steps
    past_on past = record {
      took = past.took;
      holds = holds_at_operation labels past.pieces (next a) holds_next;
      pieces = past.pieces;
      past = past_then s why o next asks holds_next (past_answered r.extent (course_of slot before) s why next o a past.past);
    }
      where
        holds_next : HoldsNoMore (next a)
        holds_next = (subst HoldsNoMore asks past.holds) a

    unbegun_stays : (b : Bool) (x : SlotState) → x.way ≡ way.Unbegun → (state_behind false b x).way ≡ way.Unbegun
    unbegun_stays true x is = refl
    unbegun_stays false x is = is

    looked_is_over : (at : Option ImageAt) (p : ImageAt) (x : SlotState) → at ≡ Some p → (state_behind false (is_some at) x).way ≡ way.Unbegun
    looked_is_over at p x is = ap (λ l. (state_behind false (is_some l) x).way) is

    pub goes_on_itself : AgreesWithWay left place_then (state_behind false (is_some (look_under_lock_at stands slot c.session)) (slot_state slot c.slots)).way steps
    goes_on_itself = by (slot_state slot c.slots).way refl keeps
      where
        look : Option ImageAt
        look = look_under_lock_at stands slot c.session

        over : (state_behind false (is_some look) (slot_state slot c.slots)).way ≡ way.Unbegun → AgreesWithWay left place_then way.Unbegun steps
            → AgreesWithWay left place_then (state_behind false (is_some look) (slot_state slot c.slots)).way steps
        over is off = subst (λ w. AgreesWithWay left place_then w steps) (sym is) off

        by : (w : Way) → (slot_state slot c.slots).way ≡ w → AgreesWithWay (stands r.request) (course_of slot before).place w steps
            → AgreesWithWay left place_then (state_behind false (is_some look) (slot_state slot c.slots)).way steps
        by way.Unbegun is (inl none) = over (unbegun_stays (is_some look) (slot_state slot c.slots) is) (inl none)
        by way.Unbegun is (inr past) = over (unbegun_stays (is_some look) (slot_state slot c.slots) is) (inr (past_on past))
        by (way.On b) is there = absurd (not_on stands slot c sound r runs steps keeps acts b is)
        by (way.Taken p) is there =
            let waiting : WaitsForLook stands slot p.site p.image c.session = (subst (λ w. IsWellOnWay stands slot w c.session c.locks) is (sound.ways slot)).0 in
            over (looked_is_over look (record { site = p.site; image = p.image }) (slot_state slot c.slots) (stands_at_look stands slot p.site p.image c.session waiting goes))
            (inr
            (subst (λ q. IsPastItsWay (standing_behind q) (place_behind q) steps) asks
            (past_look p.site p.image waiting own further_so steps (record { site = p.site; image = p.image; way = there }))))

-- ---- a release

pub of_release : (x : Release) → IsOfRelease (release_op x)
of_release x = by x.stage
  where
    by : (s : ReleaseStage) → IsOfRelease (release_op_at s x.image)
    by letting.Dropping = record { image = x.image; is = inl refl }
    by letting.Telling = record { image = x.image; is = inr refl }
