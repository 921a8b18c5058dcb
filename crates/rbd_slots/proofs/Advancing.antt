-- A request that is fed goes on, wait by wait, up to its next operation or to its end.
use Rattle.std.proofs.Common.{◌≡◌, ℕ, ◌<◌, ◌≤◌, cond, not, Bool, true, false, List, [], length, Option, Some, None, refl, sym, ap, ◌∙◌, subst, arith}
use Rattle.std.proofs.lemmas.Bool.{and_parts, or_parts}
use Rattle.rbd_machine.specs.Course.{looks_under_lock_at, is_waiting, due_of, objects_asked}
use Rattle.rbd_kinds.specs.declared.answer.Answer.{Answer}
use Rattle.rbd_kinds.specs.declared.answer.Answer.TheVariants as answer
use Rattle.rbd_kinds.specs.declared.header_op.HeaderOp.TheVariants as header
use Rattle.rbd_kinds.specs.declared.id.SiteId.{SiteId}
use Rattle.rbd_kinds.specs.declared.layout.Extent.{Extent}
use Rattle.rbd_kinds.specs.declared.machine.Fed.{Fed}
use Rattle.rbd_kinds.specs.declared.machine.Fed.TheVariants as fed
use Rattle.rbd_kinds.specs.declared.machine.Flow.{Flow}
use Rattle.rbd_kinds.specs.declared.machine.Flow.TheVariants as flow
use Rattle.rbd_kinds.specs.declared.machine.Want.{Want}
use Rattle.rbd_kinds.specs.declared.operation.Op.TheVariants as op
use Rattle.rbd_kinds.specs.declared.reply.Reply.{Reply}
use Rattle.rbd_machine.specs.Orderly.{IsOrderly}
use Rattle.rbd_queue.specs.Line.{member_of, may_pass, without}
use Rattle.rbd_machine.specs.Answers.{CanBeFed}
use Rattle.rbd_machine.specs.Knowledge.{is_at}
use Rattle.rbd_machine.specs.Label.{Label}
use Rattle.rbd_machine.specs.Path.{at_operation}
use Rattle.rbd_machine.specs.Plan.{Plan, Ask, Await, Note, Return, Goto, Standing, IsAsking, GoesOn, plan_after}
use Rattle.rbd_slots.specs.declared.running.Running.{Running}
use Rattle.rbd_slots.specs.Advance.{objects_or_none, track_with, track_of, past_its_look, looked_for, fed_by, wait_wanted, wanted_by, waits_left, IsGoingOn, IsSameRequest, IsJoin, MayPass, IsFedWell, GoesFurther, AdvancesTo}
use Rattle.rbd_slots.specs.Lines.{AreUsed, LinesView, lines_of, room_of, CanOpen}
use Rattle.rbd_slots.specs.OnTrack.{IsOnTrack, IsNowhereElse, AreFair, LeavesOthers}
use Rattle.rbd_slots.specs.Track.{Track, line_in, line_changed_at, course_of, track_looked, passed_by, run, ended_by}
use Rattle.rbd_slots.specs.Waits.{waits, awaits_line, awaits_turn, awaits_look}
use Rattle.rbd_slots.proofs.Fairness.{passed_by_fair, answered_by_fair, ended_by_fair}
use Rattle.rbd_slots.proofs.Going.{IsGoing, begins_going, goes_past, stops_at_operation, ends_there}
use Rattle.rbd_slots.proofs.Others.{answered_leaves, passed_leaves, ended_leaves, left_elsewhere}

-- ---- its look under the lock

own_waits : (site : SiteId) (image : ℕ) (place : _) → looks_under_lock_at site image place ≡ true → awaits_look place ≡ true
own_waits site image None own = own
own_waits site image (Some p) own = (and_parts (is_at site image p.site p.image) (is_waiting p.stage) own).1

-- who doesn't wait may go past its look under the lock
pub own_may_pass : (slot : ℕ) (t : Track) → waits slot t ≡ false → (site : SiteId) (image : ℕ) → looks_under_lock_at site image (course_of slot t).place ≡ true → may_pass slot (line_in t.place t.lines) ≡ true
own_may_pass slot t goes site image own = go (may_pass slot (line_in t.place t.lines)) refl
  where
    go : (b : Bool) → may_pass slot (line_in t.place t.lines) ≡ b → b ≡ true
    go true is = refl
    go false is =
        let held : awaits_line slot t ≡ true = rw (own_waits site image (course_of slot t).place own) (ap not is) in
        let clash : true ≡ false = sym held ∙ (or_parts (awaits_line slot t) (awaits_turn slot t) goes).0 in cc

-- what it is fed changes its track as its look under the lock does, if it was that
pub looked_is_fed : (slot : ℕ) (e : Option Extent) (t : Track) (plan : Plan) (f : Fed) → past_its_look slot (looked_for slot e t plan f) t ≡ fed_by slot e t plan f
looked_is_fed slot e t (Ask site why (op.Header image header.Get) next) (fed.Answer (answer.Header h)) = go (looks_under_lock_at site image (course_of slot t).place)
  where
    go : (b : Bool) → past_its_look slot (cond b (Some (due_of (course_of slot t).place (objects_asked h e))) None) t ≡ cond b (track_looked slot e h t) t
    go true = refl
    go false = refl
looked_is_fed slot e t (Ask site why o next) (fed.Answer a) = refl
looked_is_fed slot e t plan f = refl

-- ---- it begins

pub record Begins (slot : ℕ) (e : Option Extent) (labels : Label → Plan) (plan : Plan) (f : Fed) (t : Track) (u : Flow) (s : Standing) : Type 0 where
  pub going : IsGoing slot e labels (at_operation labels (plan_after plan f)) (run slot (plan_after plan f) (fed_by slot e t plan f)) u s (fed_by slot e t plan f)
  pub fair : AreFair (fed_by slot e t plan f).lines
  pub others : LeavesOthers slot t.lines (fed_by slot e t plan f).lines

begins : (slot : ℕ) (e : Option Extent) (labels : Label → Plan) (plan : Plan) (f : Fed) (t : Track) (u : Flow) (s : Standing) → IsAsking plan → CanBeFed plan f → waits slot t ≡ false → AreFair t.lines
    → IsOnTrack slot e true (record { labels = labels; plan = plan }) t → GoesOn labels (plan_after plan f) u s → Begins slot e labels plan f t u s
begins slot e labels (Ask site why o next) (fed.Answer a) t u s asks can goes fair on goes_on = record {
  going = begins_going slot e labels true site why o next a t u s can fair on goes_on;
  fair = answered_by_fair slot e t site o a fair (own_may_pass slot t goes);
  others = answered_leaves slot e t site o a;
}
begins slot e labels (Ask site why o next) fed.Passed t u s asks can goes fair on goes_on = elim can [ ]
begins slot e labels (Await w next) f t u s asks can goes fair on goes_on = elim asks [ ]
begins slot e labels (Note site image event next) f t u s asks can goes fair on goes_on = elim asks [ ]
begins slot e labels (Return reply) f t u s asks can goes fair on goes_on = elim asks [ ]
begins slot e labels (Goto label) f t u s asks can goes fair on goes_on = elim asks [ ]

-- ---- on its way

module _ {R : Type 0} (stands : R → Standing) (slot : ℕ) (start : Running R) (start_lines : LinesView) (labels : Label → Plan) (last : Plan) (final : Track) where
  pub record IsAdvancing (u : Flow) (r : Running R) (lines : LinesView) (due : Option (List ℕ)) : Type 0 where
    pub going : IsGoing slot start.extent labels last final u (stands r.request) (track_with due r lines)
    pub fair : AreFair (lines_of lines)
    pub opens : going.fresh ≡ true → CanOpen lines
    pub room : length (objects_or_none due) ≤ room_of r.place lines
    pub line : r.line ≡ start.line
    pub extent : r.extent ≡ start.extent
    pub looked : r.looked ≡ None
    pub others : LeavesOthers slot (lines_of start_lines) (lines_of lines)
    pub used : AreUsed start_lines.entries → AreUsed lines.entries

  -- it hasn't ended where it wants more
  live : (u : Flow) (s : Standing) (t : Track) → IsGoing slot start.extent labels last final u s t → IsGoingOn u s.plan
  live (flow.Done reply) s t g = tt
  live flow.More s t g = g.goes.live

  pub is_live : (u : Flow) (r : Running R) (lines : LinesView) (due : Option (List ℕ)) → IsAdvancing u r lines due → IsGoingOn u (stands r.request).plan
  is_live u r lines due a = live u (stands r.request) (track_with due r lines) a.going

  labels_of : (s : Standing) (t : Track) → IsGoing slot start.extent labels last final flow.More s t → s.labels ≡ labels
  labels_of s t g = ap (λ (x : Standing). x.labels) g.goes.stands

  -- on a track that is the same
  abbrev moved : (v : Flow) (s : Standing) (t u : Track) → t ≡ u → IsGoing slot start.extent labels last final v s t → IsGoing slot start.extent labels last final v s u
  moved v s t u same g = record {
    to = g.to;
    fresh = g.fresh;
    here = g.here;
    goes = g.goes;
    on = subst (λ x. IsOnTrack slot start.extent g.fresh (record { labels = labels; plan = g.to }) x) same g.on;
    last_is = g.last_is;
    final_is = ap (run slot g.to) (sym same) ∙ g.final_is;
  }

  -- what it wants beside an operation can be passed over
  pub record CanAdvance (u : Flow) (r : Running R) (lines : LinesView) (due : Option (List ℕ)) (w : Want) : Type 0 where
    pub may : MayPass slot (track_with due r lines) w
    pub joins : IsJoin w → CanOpen lines
    pub room : length (objects_or_none due) ≤ room_of r.place lines
    pub can : CanBeFed (stands r.request).plan fed.Passed

  passes : (s : Standing) (w : Want) → wait_wanted s.plan ≡ Some w → CanBeFed s.plan fed.Passed
  passes s w wants = by s.plan wants
    where
      by : (plan : Plan) → wait_wanted plan ≡ Some w → CanBeFed plan fed.Passed
      by (Ask site why o next) wants = cc
      by (Await one next) wants = tt
      by (Note site image event next) wants = tt
      by (Return reply) wants = cc
      by (Goto label) wants = cc

  pub can_advance : (u : Flow) (r : Running R) (lines : LinesView) (due : Option (List ℕ)) (w : Want) → IsAdvancing u r lines due → wanted_by u (stands r.request).plan ≡ Some w → CanAdvance u r lines due w
  can_advance (flow.Done reply) r lines due w a wants = cc
  can_advance flow.More r lines due w a wants =
      let passing = goes_past slot start.extent labels last final (stands r.request) (track_with due r lines) w a.going wants in
      record {
        may = passing.may;
        joins = λ join. a.opens (passing.joins join);
        room = a.room;
        can = passes (stands r.request) w wants;
      }

  pub advances : (u : Flow) (r : Running R) (lines : LinesView) (due : Option (List ℕ)) (w : Want) → 1 ≤ slot → slot ≤ 64 → IsAdvancing u r lines due → wanted_by u (stands r.request).plan ≡ Some w
      → (next : Running R) (after : LinesView) (left : Option (List ℕ)) → IsSameRequest r next → track_with left next after ≡ passed_by slot (track_with due r lines) w
      → ((IsJoin w → ⊥) → CanOpen lines → CanOpen after) → length (objects_or_none left) ≤ room_of next.place after → (AreUsed lines.entries → AreUsed after.entries)
      → (v : Flow) (request : R) → GoesOn (stands next.request).labels (plan_after (stands next.request).plan fed.Passed) v (stands request)
      → IsAdvancing v (record next { request = request }) after left × (waits_left v (stands request).plan < waits_left u (stands r.request).plan)
  advances (flow.Done reply) r lines due w from to a wants next after left same track opens room used v request goes = cc
  advances flow.More r lines due w from to a wants next after left same track opens room used v request goes =
      let s = stands r.request in
      let t = track_with due r lines in
      let passing = goes_past slot start.extent labels last final s t w a.going wants in
      let goes_on : GoesOn labels (plan_after s.plan fed.Passed) v (stands request) =
      subst (λ ls. GoesOn ls (plan_after s.plan fed.Passed) v (stands request)) (labels_of s t a.going)
      (subst (λ q. GoesOn (stands q).labels (plan_after (stands q).plan fed.Passed) v (stands request)) same.request goes) in
      let further = passing.further v (stands request) goes_on in
      let lines_are : (passed_by slot t w).lines ≡ lines_of after = ap (λ (x : Track). x.lines) (sym track) in (
        record {
          going = moved v (stands request) (passed_by slot t w) (track_with left next after) (sym track) further.going;
          fair = subst AreFair lines_are (passed_by_fair slot from to t w a.fair passing.may);
          opens = λ fresh.
              let both = further.opens fresh in
              opens both.1 (a.opens both.0);
          room = room;
          line = same.line ∙ a.line;
          extent = same.extent ∙ a.extent;
          looked = same.looked ∙ a.looked;
          others = λ other differ site image.
              sym (ap (λ (ls : _). member_of other (ls site image)) lines_are) ∙ passed_leaves slot t w other differ site image ∙ a.others other differ site image;
          used = λ were. used (a.used were);
        },
        further.less,
      )

  -- ---- where it stops

  pub ends_so : (reply : Reply) (r : Running R) (lines : LinesView) (due : Option (List ℕ)) → IsAdvancing (flow.Done reply) r lines due → (new : Running R) (after : LinesView)
      → lines_of after ≡ line_changed_at r.place (without slot) (lines_of lines) → AdvancesTo stands slot labels last final (Some reply) start new after
  ends_so reply r lines due a new after left =
      let there = ends_there slot start.extent labels last final reply (stands r.request) (track_with due r lines) a.going in
      subst (λ plan. AdvancesTo stands slot labels plan final (Some reply) start new after) (sym there.0)
      (record {
        reply = refl;
        left = left ∙ ap (λ t. (ended_by slot t).lines) (sym there.1);
        nowhere = subst (IsNowhereElse slot None) (sym left) (left_elsewhere slot r.place (lines_of lines) a.going.on.elsewhere);
      })

  none_due : (s : Standing) (t : Track) (fresh : Bool) → IsAsking s.plan → IsOnTrack slot start.extent fresh s t → t.due ≡ []
  none_due s t fresh asks on = by s.plan asks on.orderly.orderly
    where
      by : (plan : Plan) → IsAsking plan → IsOrderly start.extent on.orderly.at fresh (course_of slot t) plan → t.due ≡ []
      by (Ask site why o next) asks orderly = orderly.0
      by (Await w next) asks orderly = elim asks [ ]
      by (Note site image event next) asks orderly = elim asks [ ]
      by (Return reply) asks orderly = elim asks [ ]
      by (Goto label) asks orderly = elim asks [ ]

  -- at an operation it makes no difference whether it could join a line
  on_asking : (s : Standing) (t : Track) (fresh : Bool) → IsAsking s.plan → IsOnTrack slot start.extent fresh s t → IsOnTrack slot start.extent true s t
  on_asking s t fresh asks on = record {
    somewhere = on.somewhere;
    elsewhere = on.elsewhere;
    orderly = record { at = on.orderly.at; orderly = by s.plan asks on.orderly.orderly; closed = on.orderly.closed; labels = on.orderly.labels };
    takes = on.takes;
    turns = on.turns;
  }
    where
      by : (plan : Plan) → IsAsking plan → IsOrderly start.extent on.orderly.at fresh (course_of slot t) plan → IsOrderly start.extent on.orderly.at true (course_of slot t) plan
      by (Ask site why o next) asks orderly = orderly
      by (Await w next) asks orderly = elim asks [ ]
      by (Note site image event next) asks orderly = elim asks [ ]
      by (Return reply) asks orderly = elim asks [ ]
      by (Goto label) asks orderly = elim asks [ ]

  further : (plan : Plan) (new : Running R) (after : LinesView) → IsAsking plan → GoesFurther stands slot (record { labels = labels; plan = plan }) final None start new after → AdvancesTo stands slot labels plan final None start new after
  further (Ask site why o next) new after asks goes = goes
  further (Await w next) new after asks goes = elim asks [ ]
  further (Note site image event next) new after asks goes = elim asks [ ]
  further (Return reply) new after asks goes = elim asks [ ]
  further (Goto label) new after asks goes = elim asks [ ]

  pub stops_so : (r : Running R) (lines : LinesView) (due : Option (List ℕ)) → IsAdvancing flow.More r lines due → wait_wanted (stands r.request).plan ≡ None → AdvancesTo stands slot labels last final None start r lines
  stops_so r lines due a none =
      let there = stops_at_operation slot start.extent labels last final (stands r.request) (track_with due r lines) a.going none in
      let asks : IsAsking last = subst (λ (s : Standing). IsAsking s.plan) there.stands there.asks in
      let none_left = none_due (stands r.request) (track_with due r lines) there.on.0 there.asks there.on.1 in
      further last r lines asks (record {
        none = refl;
        line = a.line;
        extent = a.extent;
        looked = a.looked;
        request = there.stands;
        track = ap (λ due. record { place = r.place; turn = r.turn; due = due; lines = lines_of lines }) (sym none_left) ∙ sym there.track;
        asks = asks;
      })

  -- and there it keeps to its line
  pub stops_on_track : (r : Running R) (lines : LinesView) (due : Option (List ℕ)) → IsAdvancing flow.More r lines due → wait_wanted (stands r.request).plan ≡ None
      → IsOnTrack slot r.extent true (stands r.request) (track_of r lines)
  stops_on_track r lines due a none =
      let there = stops_at_operation slot start.extent labels last final (stands r.request) (track_with due r lines) a.going none in
      let none_left = none_due (stands r.request) (track_with due r lines) there.on.0 there.asks there.on.1 in
      subst (λ e. IsOnTrack slot e true (stands r.request) (track_of r lines)) (sym a.extent)
      (subst (IsOnTrack slot start.extent true (stands r.request)) (ap (λ due. record { place = r.place; turn = r.turn; due = due; lines = lines_of lines }) none_left)
      (on_asking (stands r.request) (track_with due r lines) there.on.0 there.asks there.on.1))

  pub ended_others : (r : Running R) (lines after : LinesView) → LeavesOthers slot (lines_of start_lines) (lines_of lines) → lines_of after ≡ line_changed_at r.place (without slot) (lines_of lines)
      → LeavesOthers slot (lines_of start_lines) (lines_of after)
  ended_others r lines after others left other differ site image =
      ap (λ (ls : _). member_of other (ls site image)) left ∙ ended_leaves slot (track_of r lines) other differ site image ∙ others other differ site image

  pub ended_fair : (r : Running R) (lines after : LinesView) → AreFair (lines_of lines) → lines_of after ≡ line_changed_at r.place (without slot) (lines_of lines) → AreFair (lines_of after)
  ended_fair r lines after fair left = subst AreFair (sym left) (ended_by_fair slot (track_of r lines) fair)

-- ---- from what it is fed

pub advancing_begins : {R : Type 0} (stands : R → Standing) (is_ready : R → Answer → Type 0) (slot : ℕ) (start : Running R) (lines : LinesView) (f : Fed) → (w : IsFedWell stands is_ready slot start lines f)
    → (r : Running R) (after : LinesView) (due : Option (List ℕ)) → track_with due r after ≡ past_its_look slot start.looked (track_of start lines) → r ≡ record start { looked = None }
    → due ≡ start.looked → (CanOpen lines → CanOpen after) → room_of start.place lines ≤ room_of start.place after → (AreUsed lines.entries → AreUsed after.entries)
    → (u : Flow) (request : R) → GoesOn (stands r.request).labels (plan_after (stands r.request).plan f) u (stands request)
    → IsAdvancing stands slot start lines (stands start.request).labels (at_operation (stands start.request).labels (plan_after (stands start.request).plan f))
    (run slot (plan_after (stands start.request).plan f) (fed_by slot start.extent (track_of start lines) (stands start.request).plan f)) u (record r { request = request }) after due
advancing_begins {R} stands is_ready slot start lines f w r after due track is due_is opens room used u request goes =
    let s = stands start.request in
    let t = track_of start lines in
    let same : track_with due r after ≡ fed_by slot start.extent t s.plan f =
    track ∙ ap (λ o. past_its_look slot o t) w.looked ∙ looked_is_fed slot start.extent t s.plan f in
    let goes_on : GoesOn s.labels (plan_after s.plan f) u (stands request) =
    subst (λ q. GoesOn (stands q).labels (plan_after (stands q).plan f) u (stands request)) (ap (λ (x : Running R). x.request) is) goes in
    let b = begins slot start.extent s.labels s.plan f t u (stands request) w.asks w.can w.goes w.fair w.on goes_on in
    let lines_are : (fed_by slot start.extent t s.plan f).lines ≡ lines_of after = ap (λ (x : Track). x.lines) (sym same) in
    let enough : length (objects_or_none start.looked) ≤ room_of start.place after = let before = w.room in omega (arith, before, room) in
    record {
      going =
          moved stands slot start lines s.labels (at_operation s.labels (plan_after s.plan f)) (run slot (plan_after s.plan f) (fed_by slot start.extent t s.plan f)) u (stands request)
          (fed_by slot start.extent t s.plan f) (track_with due r after) (sym same) b.going;
      fair = subst AreFair lines_are b.fair;
      opens = λ fresh. opens w.opens;
      room =
          subst (λ d. length (objects_or_none d) ≤ room_of r.place after) (sym due_is)
          (subst (λ p. length (objects_or_none start.looked) ≤ room_of p after) (sym (ap (λ (x : Running R). x.place) is)) enough);
      line = ap (λ (x : Running R). x.line) is;
      extent = ap (λ (x : Running R). x.extent) is;
      looked = ap (λ (x : Running R). x.looked) is;
      others = λ other differ site image. sym (ap (λ (ls : _). member_of other (ls site image)) lines_are) ∙ b.others other differ site image;
      used = used;
    }
