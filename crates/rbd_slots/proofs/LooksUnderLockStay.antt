-- The look under the lock that a request stands at stays its own, whatever others do.
use Rattle.std.proofs.Common.{◌≡◌, ◌≢◌, ℕ, ◌&&◌, ◌||◌, cond, not, Bool, true, false, List, [], ◌∷◌, ◌++◌, Option, Some, None, refl, sym, ap, ◌∙◌}
use Rattle.std.proofs.lemmas.Bool.{true≢false}
use Rattle.std.specs.Option.{option_map}
use Rattle.std.proofs.lemmas.Option.{none-some, same_Some}
use Rattle.rbd_machine.specs.Course.{looks_under_lock_at}
use Rattle.rbd_kinds.specs.declared.answer.Answer.{Answer}
use Rattle.rbd_kinds.specs.declared.answer.Answer.TheVariants as answer
use Rattle.rbd_kinds.specs.declared.header_op.HeaderOp.TheVariants as header
use Rattle.rbd_kinds.specs.declared.id.SiteId.{SiteId}
use Rattle.rbd_kinds.specs.declared.layout.Extent.{Extent}
use Rattle.rbd_kinds.specs.declared.machine.Fed.{Fed}
use Rattle.rbd_kinds.specs.declared.machine.Fed.TheVariants as fed
use Rattle.rbd_kinds.specs.declared.operation.Op.{Op}
use Rattle.rbd_kinds.specs.declared.operation.Op.TheVariants as op
use Rattle.rbd_kinds.specs.declared.operation_kind.OpKind.{OpKind}
use Rattle.rbd_kinds.specs.declared.reply.Reply.{Reply}
use Rattle.rbd_queue.specs.Line.{Member, member_of, is_past, may_pass, comes_next, objects_in, changed_member, without, new_member, held, passed}
use Rattle.rbd_queue.specs.Steady.{IsSteady}
use Rattle.rbd_queue.specs.Turns.{begins_with}
use Rattle.rbd_queue.proofs.Passing.{may_changed, may_joined, may_left, held_is_steady, passed_is_steady}
use Rattle.rbd_machine.specs.Knowledge.{is_at}
use Rattle.rbd_machine.specs.Label.{Label}
use Rattle.rbd_machine.specs.Path.{at_operation}
use Rattle.rbd_machine.specs.Plan.{Plan, Ask, Await, Note, Return, Goto, Standing, plan_after}
use Rattle.rbd_machine.specs.Wait.{Wait}
use Rattle.rbd_machine.specs.Wait as wait
use Rattle.rbd_kinds.specs.declared.image_at.ImageAt.{ImageAt}
use Rattle.rbd_slots.specs.declared.running.Occupant.{Occupant}
use Rattle.rbd_slots.specs.declared.running.Occupant.TheVariants as occupant
use Rattle.rbd_slots.specs.declared.running.Running.{Running}
use Rattle.rbd_slots.specs.Advance.{track_of, fed_by, AdvancesTo, GoesFurther, IsSameStand}
use Rattle.rbd_slots.specs.Lines.{LinesView, lines_of}
use Rattle.rbd_slots.specs.OnTrack.{LeavesOthers}
use Rattle.rbd_slots.specs.Session.{SessionView, IsSoundSession, IsAtLookUnderLock, OfRunning, IsAlike, IsAlikeIn, IsFed, ComesToIn, held_in, running_in, running_at, going_in, kind_asked, is_look_at, look_under_lock_of, look_under_lock_in, look_under_lock_at}
use Rattle.rbd_slots.specs.Track.{Track, Lines, line_changed_at, place_of_image, line_in, course_of, given_tickets, done_with, waited_by, track_noted, track_looked, answered_by, run, ended_by}
use Rattle.rbd_slots.specs.Waits.{waits, waits_at, awaits_line, lacks_turn, awaits_look}
use Rattle.rbd_slots.proofs.Behind.{holds_none}
use Rattle.rbd_slots.proofs.Others.{ended_leaves}
use Rattle.rbd_slots.proofs.LooksUnderLock.{at_look_under_lock}
use Rattle.rbd_slots.proofs.Readied.{same_track}
use Rattle.rbd_slots.proofs.Track.{done_steady, given_steady}

-- ---- where it stands

-- each line has it as before
abbrev IsSameMember : (slot : ℕ) → (old new : LinesView) → Type 0
IsSameMember slot old new = (site : SiteId) (image : ℕ) → member_of slot (lines_of new site image) ≡ member_of slot (lines_of old site image)

same_look : (slot : ℕ) (wanted : Option (SiteId × OpKind)) (place : Option ImageAt) (old new : LinesView) → IsSameMember slot old new
    → look_under_lock_of slot wanted place new ≡ look_under_lock_of slot wanted place old
same_look slot wanted None old new same = refl
same_look slot wanted (Some p) old new same =
    ap (λ o. cond (is_look_at p.site wanted && waits_at (option_map (λ (m : Member). m.stage) o)) (Some p) None) (same p.site p.image)

module _ {R : Type 0} (stands : R → Standing) where
  same_look_in : (slot : ℕ) (o : Option (Running R)) (old new : LinesView) → IsSameMember slot old new → look_under_lock_in stands slot new o ≡ look_under_lock_in stands slot old o
  same_look_in slot None old new same = refl
  same_look_in slot (Some r) old new same = same_look slot (kind_asked (stands r.request).plan) r.place old new same

  pub stands_as_before : (s new : SessionView R) (slot other : ℕ) → slot ≢ other → held_in slot new.slots ≡ held_in slot s.slots → LeavesOthers other (lines_of s.lines) (lines_of new.lines)
      → look_under_lock_in stands slot new.lines (running_at slot new) ≡ look_under_lock_in stands slot s.lines (running_at slot s)
  stands_as_before s new slot other differ held leaves =
      ap (λ o. look_under_lock_in stands slot new.lines (running_in o)) held ∙ same_look_in slot (running_at slot s) s.lines new.lines (leaves slot differ)

  going_is : (slot : ℕ) (o : Option (Occupant R)) (lines : LinesView) (r : Running R) → running_in o ≡ Some r → waits slot (track_of r lines) ≡ false → going_in slot o lines ≡ Some r
  going_is slot None lines r runs goes = absurd (none-some r runs)
  going_is slot (Some (occupant.Refused line refusal)) lines r runs goes = absurd (none-some r runs)
  going_is slot (Some (occupant.Running q)) lines r runs goes =
      let same = same_Some q r runs in
      ap (λ b. cond b None (Some q)) (ap (λ x. waits slot (track_of x lines)) same ∙ goes) ∙ ap (λ x. Some x) same

  -- what is made ready stands where it stood
  same_way : (slot : ℕ) (r q : Running R) (old new : LinesView) → IsSameStand stands r q → lines_of new ≡ lines_of old → (b : Bool)
      → look_under_lock_in stands slot new (cond b None (Some q)) ≡ look_under_lock_in stands slot old (cond b None (Some r))
  same_way slot r q old new same lines true = refl
  same_way slot r q old new same lines false =
      ap (λ (t : Standing). look_under_lock_of slot (kind_asked t.plan) q.place new) same.same
      ∙ ap (λ p. look_under_lock_of slot (kind_asked (stands r.request).plan) p new) same.place
      ∙ same_look slot (kind_asked (stands r.request).plan) r.place old new (λ site image. ap (λ (ls : Lines). member_of slot (ls site image)) lines)

  pub looks_as_before : (s new : SessionView R) → IsAlike stands s new → (slot : ℕ) → look_under_lock_at stands slot new ≡ look_under_lock_at stands slot s
  looks_as_before s new alike slot = by (held_in slot s.slots) (held_in slot new.slots) (alike.slots slot)
    where
      by : (h o : Option (Occupant R)) → IsAlikeIn stands h o → look_under_lock_in stands slot new.lines (going_in slot o new.lines) ≡ look_under_lock_in stands slot s.lines (going_in slot h s.lines)
      by (Some (occupant.Running r)) (Some (occupant.Running q)) same =
          ap (λ t. look_under_lock_in stands slot new.lines (cond (waits slot t) None (Some q))) (same_track stands r q s.lines new.lines same alike.lines)
          ∙ same_way slot r q s.lines new.lines same alike.lines (waits slot (track_of r s.lines))
      by (Some (occupant.Running r)) (Some (occupant.Refused line refusal)) is = absurd (none-some r (ap running_in is))
      by (Some (occupant.Running r)) None is = absurd (none-some r (ap running_in is))
      by (Some (occupant.Refused line refusal)) o is = ap (λ x. look_under_lock_in stands slot new.lines (going_in slot x new.lines)) is
      by None o is = ap (λ x. look_under_lock_in stands slot new.lines (going_in slot x new.lines)) is

-- ---- it may go on

no_more : (own : Bool) → (own && not true) ≡ false
no_more true = refl
no_more false = refl

module _ {R : Type 0} (stands : R → Standing) (s new : SessionView R) (sound : IsSoundSession stands s) (slot : ℕ) (p : ImageAt) (a : IsAtLookUnderLock slot p s) where
  -- who isn't past its look under the lock holds no ticket, and has no turn
  no_turn : (turn : Option ℕ) → a.running.turn ≡ turn → (members : List Member) → lacks_turn slot turn members ≡ false
  no_turn None is members = refl
  no_turn (Some object) is members =
      let none = holds_none slot (lines_of s.lines p.site p.image) a.member (sound.fair p.site p.image) a.found (ap is_past a.awaits) in
      absurd (true≢false
      (sym ((sound.runs slot a.running a.runs).turns object is)
      ∙ ap (λ q. comes_next slot object (line_in q (lines_of s.lines))) a.place ∙ ap (λ o. begins_with object (objects_in o)) a.found ∙ ap (begins_with object) none))

  goes_on : may_pass slot (lines_of new.lines p.site p.image) ≡ true → waits slot (track_of a.running new.lines) ≡ false
  goes_on may =
      ap (λ b. awaits_line slot (track_of a.running new.lines) || b)
      (no_turn a.running.turn refl (line_in a.running.place (lines_of new.lines)))
      ∙ ap (λ b. (awaits_look (course_of slot (track_of a.running new.lines)).place && not b) || false)
      (ap (λ q. may_pass slot (line_in q (lines_of new.lines))) a.place ∙ may)
      ∙ ap (λ b. b || false) (no_more (awaits_look (course_of slot (track_of a.running new.lines)).place))

  look_stays : held_in slot new.slots ≡ held_in slot s.slots → IsSameMember slot s.lines new.lines → may_pass slot (lines_of new.lines p.site p.image) ≡ true
      → look_under_lock_at stands slot s ≡ Some p → look_under_lock_at stands slot new ≡ Some p
  look_stays held same may at =
      ap (look_under_lock_in stands slot new.lines) (going_is stands slot (held_in slot new.slots) new.lines a.running (ap running_in held ∙ a.runs) (goes_on may))
      ∙ same_look slot (kind_asked (stands a.running.request).plan) a.running.place s.lines new.lines same
      ∙ sym (ap (look_under_lock_in stands slot s.lines) (going_is stands slot (held_in slot s.slots) s.lines a.running a.runs a.goes)) ∙ at

-- ---- others let it pass

-- a change behind which a slot may still go past its look under the lock
abbrev KeepsMay : (slot : ℕ) → (List Member → List Member) → Type 0
KeepsMay slot change = (members : List Member) → may_pass slot members ≡ true → may_pass slot (change members) ≡ true

abbrev pub may_at : (slot : ℕ) → Lines → SiteId → (image : ℕ) → Bool
may_at slot lines site image = may_pass slot (lines site image)

may_still : (slot : ℕ) (place : Option ImageAt) (change : List Member → List Member) (lines : Lines) → KeepsMay slot change
    → (site : SiteId) (image : ℕ) → may_at slot lines site image ≡ true → may_at slot (line_changed_at place change lines) site image ≡ true
may_still slot None change lines keeps site image may = may
may_still slot (Some p) change lines keeps site image may = by (is_at p.site p.image site image)
  where
    by : (b : Bool) → may_pass slot (cond b (change (lines site image)) (lines site image)) ≡ true
    by true = keeps (lines site image) may
    by false = may

module _ (slot other : ℕ) (differ : other ≢ slot) where
  changed_may : (f : Member → Member) → IsSteady f → KeepsMay slot (changed_member other f)
  changed_may f steady members may = may_changed members slot other f steady may

  left_may : KeepsMay slot (without other)
  left_may members may = may_left members slot other differ may

  waited_may : (t : Track) (w : Wait) (site : SiteId) (image : ℕ) → may_at slot t.lines site image ≡ true → may_at slot (waited_by other t w).lines site image ≡ true
  waited_may t (wait.Join at of sharing) site image may =
      may_still slot (Some (place_of_image at of)) (λ members. members ++ new_member other sharing ∷ []) t.lines (λ members may. may_joined members slot other sharing may) site image may
  waited_may t (wait.Hold at of) site image may = may_still slot t.place (changed_member other held) t.lines (changed_may held held_is_steady) site image may
  waited_may t (wait.Turn object) site image may = may_still slot t.place (changed_member other (done_with t.turn)) t.lines (changed_may (done_with t.turn) (done_steady t.turn)) site image may
  waited_may t (wait.Applied at of) site image may = may_still slot t.place (changed_member other (done_with t.turn)) t.lines (changed_may (done_with t.turn) (done_steady t.turn)) site image may
  waited_may t (wait.Leave at of) site image may = may_still slot t.place (without other) t.lines left_may site image may

  run_may : (plan : Plan) (t : Track) (site : SiteId) (image : ℕ) → may_at slot t.lines site image ≡ true → may_at slot (run other plan t).lines site image ≡ true
  run_may (Ask at why o next) t site image may = may
  run_may (Await w next) t site image may = run_may next (waited_by other t w) site image (waited_may t w site image may)
  run_may (Note at of event next) t site image may =
      run_may next (track_noted other t) site image (may_still slot t.place (changed_member other (given_tickets t.due)) t.lines (changed_may (given_tickets t.due) (given_steady t.due)) site image may)
  run_may (Return reply) t site image may = may
  run_may (Goto label) t site image may = may

  answered_may : (e : Option Extent) (t : Track) (at : SiteId) (o : Op) (a : Answer) (site : SiteId) (image : ℕ) → may_at slot t.lines site image ≡ true
      → may_at slot (answered_by other e t at o a).lines site image ≡ true
  answered_may e t at (op.Header of header.Get) (answer.Header h) site image may = by (looks_under_lock_at at of (course_of other t).place)
    where
      by : (b : Bool) → may_pass slot ((cond b (track_looked other e h t) t).lines site image) ≡ true
      by true = may_still slot t.place (changed_member other passed) t.lines (changed_may passed passed_is_steady) site image may
      by false = may
  answered_may e t at o a site image may = may

  fed_may : (e : Option Extent) (t : Track) (plan : Plan) (f : Fed) (site : SiteId) (image : ℕ) → may_at slot t.lines site image ≡ true → may_at slot (fed_by other e t plan f).lines site image ≡ true
  fed_may e t (Ask at why o next) (fed.Answer a) site image may = answered_may e t at o a site image may
  fed_may e t (Ask at why o next) fed.Passed site image may = may
  fed_may e t (Await w next) f site image may = may
  fed_may e t (Note at of event next) f site image may = may
  fed_may e t (Return reply) f site image may = may
  fed_may e t (Goto label) f site image may = may

  pub ended_may : (t : Track) (site : SiteId) (image : ℕ) → may_at slot t.lines site image ≡ true → may_at slot (ended_by other t).lines site image ≡ true
  ended_may t site image may = may_still slot t.place (without other) t.lines left_may site image may

  module _ {R : Type 0} (stands : R → Standing) (site : SiteId) (image : ℕ) where
    further_may : (to : Standing) (t : Track) (result : Option Reply) (r q : Running R) (after : LinesView) → GoesFurther stands other to t result r q after
        → may_at slot t.lines site image ≡ true → may_at slot (lines_of after) site image ≡ true
    further_may to t result r q after goes may = ap (λ (x : Track). may_at slot x.lines site image) goes.track ∙ may

    comes_may : (labels : Label → Plan) (plan : Plan) (t : Track) (result : Option Reply) (r q : Running R) (after : LinesView) → AdvancesTo stands other labels plan t result r q after
        → may_at slot t.lines site image ≡ true → may_at slot (lines_of after) site image ≡ true
    comes_may labels (Return reply) t result r q after ended may = ap (λ (ls : Lines). may_at slot ls site image) ended.left ∙ ended_may t site image may
    comes_may labels (Ask at why o next) t result r q after goes may = further_may (record { labels = labels; plan = Ask at why o next }) t result r q after goes may
    comes_may labels (Await w next) t result r q after goes may = further_may (record { labels = labels; plan = Await w next }) t result r q after goes may
    comes_may labels (Note at of event next) t result r q after goes may = further_may (record { labels = labels; plan = Note at of event next }) t result r q after goes may
    comes_may labels (Goto label) t result r q after goes may = further_may (record { labels = labels; plan = Goto label }) t result r q after goes may

    its_way_may : (f : Fed) (reply : Option Reply) (r q : Running R) (lines after : LinesView)
        → AdvancesTo stands other (stands r.request).labels (at_operation (stands r.request).labels (plan_after (stands r.request).plan f))
        (run other (plan_after (stands r.request).plan f) (fed_by other r.extent (track_of r lines) (stands r.request).plan f)) reply r q after
        → may_at slot (lines_of lines) site image ≡ true → may_at slot (lines_of after) site image ≡ true
    its_way_may f reply r q lines after comes may =
        let t = track_of r lines in
        let plan = (stands r.request).plan in
        comes_may (stands r.request).labels (at_operation (stands r.request).labels (plan_after plan f)) (run other (plan_after plan f) (fed_by other r.extent t plan f)) reply r q after comes
        (run_may (plan_after plan f) (fed_by other r.extent t plan f) site image (fed_may r.extent t plan f site image may))

    -- whatever it is fed
    pub feeding_may : (lines after : LinesView) (f : Fed) (reply : Option Reply) (r : Running R) (o : Option (Occupant R)) → ComesToIn stands other lines f reply r o after
        → may_at slot (lines_of lines) site image ≡ true → may_at slot (lines_of after) site image ≡ true
    feeding_may lines after f reply r (Some (occupant.Running q)) comes may = its_way_may f reply r q lines after comes.1 may
    feeding_may lines after f reply r None comes may = its_way_may f reply r r lines after comes.1 may
    feeding_may lines after f reply r (Some (occupant.Refused line refusal)) comes may = elim comes [ ]

    may_behind_feeding : (s new : SessionView R) (f : Fed) (reply : Option Reply) → IsFed stands other f reply s new → may_at slot (lines_of s.lines) site image ≡ true
        → may_at slot (lines_of new.lines) site image ≡ true
    may_behind_feeding s new f reply fed may = by (held_in other s.slots) fed
      where
        by : (o : Option (Occupant R)) → OfRunning (λ r. ComesToIn stands other s.lines f reply r (held_in other new.slots) new.lines) o → may_at slot (lines_of new.lines) site image ≡ true
        by (Some (occupant.Running r)) comes = feeding_may s.lines new.lines f reply r (held_in other new.slots) comes may
        by (Some (occupant.Refused line refusal)) comes = elim comes [ ]
        by None comes = elim comes [ ]

module _ {R : Type 0} (stands : R → Standing) (s new : SessionView R) (slot other : ℕ) (p : ImageAt) (sound : IsSoundSession stands s) (differ : slot ≢ other)
    (held : held_in slot new.slots ≡ held_in slot s.slots) (at : look_under_lock_at stands slot s ≡ Some p) where
  pub stays_behind_feeding : (f : Fed) (reply : Option Reply) → IsFed stands other f reply s new → LeavesOthers other (lines_of s.lines) (lines_of new.lines) → look_under_lock_at stands slot new ≡ Some p
  stays_behind_feeding f reply fed leaves =
      let a = at_look_under_lock stands s slot p at in
      look_stays stands s new sound slot p a held (leaves slot differ)
      (may_behind_feeding slot other (λ same. differ (sym same)) stands p.site p.image s new f reply fed a.may) at

  pub stays_behind_end : (r : Running R) → lines_of new.lines ≡ (ended_by other (track_of r s.lines)).lines → look_under_lock_at stands slot new ≡ Some p
  stays_behind_end r left =
      let a = at_look_under_lock stands s slot p at in
      look_stays stands s new sound slot p a held
      (λ site image. ap (λ (ls : Lines). member_of slot (ls site image)) left ∙ ended_leaves other (track_of r s.lines) slot differ site image)
      (ap (λ (ls : Lines). may_at slot ls p.site p.image) left ∙ ended_may slot other (λ same. differ (sym same)) (track_of r s.lines) p.site p.image a.may) at
