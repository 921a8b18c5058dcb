-- What a write does in its line behind its look-up: it stays there, and once it is past its look
-- under the lock it takes no ticket any more.
use Rattle.std.proofs.Common.{◌≡◌, ℕ, ◌&&◌, cond, Bool, true, false, List, [], Option, Some, None, refl, sym, ap, ◌∙◌, subst}
use Rattle.std.proofs.lemmas.List.{append-nil}
use Rattle.std.proofs.Math.Bool.{and-false}
use Rattle.rbd_machine.specs.Course.{looks_under_lock_at, is_waiting}
use Rattle.rbd_machine.specs.declared.stage.Stage.{Stage}
use Rattle.rbd_machine.specs.declared.stage.Stage.TheVariants as stage
use Rattle.rbd_kinds.specs.declared.answer.Answer.{Answer}
use Rattle.rbd_kinds.specs.declared.answer.Answer.TheVariants as answer
use Rattle.rbd_kinds.specs.declared.header_op.HeaderOp.TheVariants as header
use Rattle.rbd_kinds.specs.declared.id.SiteId.{SiteId}
use Rattle.rbd_kinds.specs.declared.layout.Extent.{Extent}
use Rattle.rbd_kinds.specs.declared.operation.Op.{Op}
use Rattle.rbd_kinds.specs.declared.operation.Op.TheVariants as op
use Rattle.rbd_queue.specs.Line.{Member, member_of, is_member, ahead, holds_ticket, is_past, changed_member, held, passed, without}
use Rattle.rbd_queue.specs.Steady.{IsSteady}
use Rattle.rbd_queue.proofs.Passing.{held_is_steady, passed_is_steady}
use Rattle.rbd_machine.specs.Knowledge.{is_at}
use Rattle.rbd_machine.specs.Label.{Label}
use Rattle.rbd_machine.specs.Path.{at_operation}
use Rattle.rbd_machine.specs.Plan.{Plan, Ask, Await, Note, Return, Goto}
use Rattle.rbd_machine.specs.Wait as wait
use Rattle.rbd_kinds.specs.declared.image_at.ImageAt.{ImageAt}
use Rattle.rbd_slots.specs.Track.{Track, Lines, answered_by, line_changed_at, course_of, done_with, ended_by, given_tickets, line_in, track_looked, place_in, track_noted, run, waited_by}
use Rattle.rbd_slots.proofs.Track.{changed_here, done_steady, given_steady}
use Rattle.rbd_world.specs.InLine.{IsPastWithout}
use Rattle.rbd_catalog.specs.InLine.{KeepsTo, LabelsKeepTo}
use Rattle.rbd_world.proofs.Ahead.{TakesNone, ahead_changed, ahead_left, member_changed, member_left, without_changed}
use Rattle.rbd_knowledge.proofs.Firsts.{no_more_first}

-- ---- the same members, in the same order

pub record AreSameMembers (old new : Lines) : Type 0 where
  pub members : (s : SiteId) (i x : ℕ) → is_member x (new s i) ≡ is_member x (old s i)
  pub ahead : (s : SiteId) (i x y : ℕ) → is_member x (ahead y (new s i)) ≡ is_member x (ahead y (old s i))

pub same_lines : (lines : Lines) → AreSameMembers lines lines
same_lines lines = record { members = λ s i x. refl; ahead = λ s i x y. refl }

pub same_then : (a b c : Lines) → AreSameMembers a b → AreSameMembers b c → AreSameMembers a c
same_then a b c one two = record { members = λ s i x. two.members s i x ∙ one.members s i x; ahead = λ s i x y. two.ahead s i x y ∙ one.ahead s i x y }

same_changed : (slot : ℕ) (f : Member → Member) → IsSteady f → (place : Option ImageAt) (lines : Lines) → AreSameMembers lines (line_changed_at place (changed_member slot f) lines)
same_changed slot f steady None lines = same_lines lines
same_changed slot f steady (Some p) lines = record {
  members = λ s i x. by_member s i x (is_at p.site p.image s i);
  ahead = λ s i x y. by_ahead s i x y (is_at p.site p.image s i);
}
  where
    by_member : (s : SiteId) (i x : ℕ) (b : Bool) → is_member x (cond b (changed_member slot f (lines s i)) (lines s i)) ≡ is_member x (lines s i)
    by_member s i x true = member_changed slot f steady x (lines s i)
    by_member s i x false = refl

    by_ahead : (s : SiteId) (i x y : ℕ) (b : Bool) → is_member x (ahead y (cond b (changed_member slot f (lines s i)) (lines s i))) ≡ is_member x (ahead y (lines s i))
    by_ahead s i x y true = ahead_changed slot f steady x y (lines s i)
    by_ahead s i x y false = refl

-- ---- its own tickets

without_here : (slot number : ℕ) (f : Member → Member) → IsSteady f → TakesNone number f → (place : Option ImageAt) (p : ImageAt) → place ≡ Some p → (lines : Lines)
    → IsPastWithout slot number (lines p.site p.image) → IsPastWithout slot number (line_changed_at place (changed_member slot f) lines p.site p.image)
without_here slot number f steady takes place p there lines is =
    subst (λ q. IsPastWithout slot number (line_changed_at q (changed_member slot f) lines p.site p.image)) (sym there)
    (subst (IsPastWithout slot number) (sym (changed_here p (changed_member slot f) lines)) (without_changed slot number f steady takes (lines p.site p.image) is))

held_takes : (number : ℕ) → TakesNone number held
held_takes number m past none = (held_is_steady.past m past, none)

done_takes : (number : ℕ) (turn : Option ℕ) → TakesNone number (done_with turn)
done_takes number None m past none = (past, none)
done_takes number (Some object) m past none = (past, no_more_first number m.objects none)

given_takes : (number : ℕ) (due : List ℕ) → due ≡ [] → TakesNone number (given_tickets due)
given_takes number due nothing m past none = (
  past,
  subst (λ objects. holds_ticket number (given_tickets objects m) ≡ false) (sym nothing) (subst (λ objects. holds_ticket number (record m { objects = objects }) ≡ false) (sym (append-nil m.objects)) none),
)

-- ---- up to its next operation

-- It stays in the line, and so do the others; and if it had no ticket to take, it takes none.
pub record StaysInLine (slot : ℕ) (p : ImageAt) (old new : Track) : Type 0 where
  pub place : new.place ≡ Some p
  pub same : AreSameMembers old.lines new.lines
  pub due : old.due ≡ [] → new.due ≡ []
  pub without : old.due ≡ [] → (number : ℕ) → IsPastWithout slot number (old.lines p.site p.image) → IsPastWithout slot number (new.lines p.site p.image)

stays_then : (slot : ℕ) (p : ImageAt) (a b c : Track) → StaysInLine slot p a b → StaysInLine slot p b c → StaysInLine slot p a c
stays_then slot p a b c one two = record {
  place = two.place;
  same = same_then a.lines b.lines c.lines one.same two.same;
  due = λ none. two.due (one.due none);
  without = λ none number is. two.without (one.due none) number (one.without none number is);
}

-- by a change of its own
stays_changed : (slot : ℕ) (p : ImageAt) (t : Track) (f : Member → Member) → IsSteady f → t.place ≡ Some p → (turn : Option ℕ) (due : List ℕ) → (t.due ≡ [] → due ≡ [])
    → (t.due ≡ [] → (number : ℕ) → TakesNone number f)
    → StaysInLine slot p t (record { place = t.place; turn = turn; due = due; lines = line_changed_at t.place (changed_member slot f) t.lines })
stays_changed slot p t f steady there turn due none takes = record {
  place = there;
  same = same_changed slot f steady t.place t.lines;
  due = none;
  without = λ nothing number is. without_here slot number f steady (takes nothing number) t.place p there t.lines is;
}

pub record Advances (slot : ℕ) (p : ImageAt) (labels : Label → Plan) (turn_at : Label → Option ℕ) (plan : Plan) (old new : Track) : Type 0 where
  pub stays : StaysInLine slot p old new
  pub keeps : KeepsTo p.site p.image turn_at new.turn (at_operation labels plan)

module _ (slot : ℕ) (p : ImageAt) where
  still : (t : Track) → t.place ≡ Some p → StaysInLine slot p t t
  still t there = record { place = there; same = same_lines t.lines; due = λ none. none; without = λ none number is. is }

  module _ (labels : Label → Plan) (turn_at : Label → Option ℕ) (behind : LabelsKeepTo p.site p.image turn_at labels) where
    further : (next plan : Plan) (a b c : Track) → at_operation labels plan ≡ at_operation labels next → StaysInLine slot p a b → Advances slot p labels turn_at next b c
        → Advances slot p labels turn_at plan a c
    further next plan a b c same one two = record {
      stays = stays_then slot p a b c one two.stays;
      keeps = subst (KeepsTo p.site p.image turn_at c.turn) (sym same) two.keeps;
    }

    pub run_stays : (plan : Plan) (t : Track) → t.place ≡ Some p → KeepsTo p.site p.image turn_at t.turn plan → Advances slot p labels turn_at plan t (run slot plan t)
    run_stays (Ask s why o next) t there keeps = record { stays = still t there; keeps = keeps }
    run_stays (Return reply) t there keeps = record { stays = still t there; keeps = tt }
    run_stays (Goto label) t there keeps = record {
      stays = still t there;
      keeps = subst (λ turn. KeepsTo p.site p.image turn_at turn (labels label)) (sym keeps.1) (behind label keeps.0);
    }
    run_stays (Await (wait.Hold s i) next) t there keeps =
        further next (Await (wait.Hold s i) next) t (waited_by slot t (wait.Hold s i)) (run slot next (waited_by slot t (wait.Hold s i))) refl
        (stays_changed slot p t held held_is_steady there t.turn t.due (λ none. none) (λ none number. held_takes number))
        (run_stays next (waited_by slot t (wait.Hold s i)) there keeps)
    run_stays (Await (wait.Turn number) next) t there keeps =
        further next (Await (wait.Turn number) next) t (waited_by slot t (wait.Turn number)) (run slot next (waited_by slot t (wait.Turn number))) refl
        (stays_changed slot p t (done_with t.turn) (done_steady t.turn) there (Some number) t.due (λ none. none) (λ none n. done_takes n t.turn))
        (run_stays next (waited_by slot t (wait.Turn number)) there keeps)
    run_stays (Await (wait.Applied s i) next) t there keeps =
        further next (Await (wait.Applied s i) next) t (waited_by slot t (wait.Applied s i)) (run slot next (waited_by slot t (wait.Applied s i))) refl
        (stays_changed slot p t (done_with t.turn) (done_steady t.turn) there None t.due (λ none. none) (λ none n. done_takes n t.turn))
        (run_stays next (waited_by slot t (wait.Applied s i)) there keeps)
    run_stays (Await (wait.Join s i sharing) next) t there keeps = absurd keeps
    run_stays (Await (wait.Leave s i) next) t there keeps = absurd keeps
    run_stays (Note s i event next) t there keeps =
        further next (Note s i event next) t (track_noted slot t) (run slot next (track_noted slot t)) refl
        (stays_changed slot p t (given_tickets t.due) (given_steady t.due) there t.turn [] (λ none. refl) (λ none number. given_takes number t.due none))
        (run_stays next (track_noted slot t) there keeps)

  -- ---- an answer

  not_waiting : (s : Stage) → is_past s ≡ true → is_waiting s ≡ false
  not_waiting stage.Joined past = refl
  not_waiting stage.Waiting past = sym past
  not_waiting stage.Past past = refl

  -- who is past its look under the lock has no look of its own any more
  not_own : (t : Track) (m : Member) → t.place ≡ Some p → member_of slot (t.lines p.site p.image) ≡ Some m → is_past m.stage ≡ true → (s : SiteId) (i : ℕ)
      → looks_under_lock_at s i (course_of slot t).place ≡ false
  not_own t m there found past s i =
      subst (λ q. looks_under_lock_at s i (place_in q (member_of slot (line_in q t.lines))) ≡ false) (sym there)
      (subst (λ o. looks_under_lock_at s i (place_in (Some p) o) ≡ false) (sym found) (ap (λ b. is_at s i p.site p.image && b) (not_waiting m.stage past) ∙ and-false (is_at s i p.site p.image)))

  module _ (e : Option Extent) (t : Track) (there : t.place ≡ Some p) where
    past_answered : (m : Member) → member_of slot (t.lines p.site p.image) ≡ Some m → is_past m.stage ≡ true → (s : SiteId) (o : Op) (a : Answer) → answered_by slot e t s o a ≡ t
    past_answered m found past s (op.Header i header.Get) (answer.Header h) = ap (λ b. cond b (track_looked slot e h t) t) (not_own t m there found past s i)
    past_answered m found past s o a = refl

    answered_place : (s : SiteId) (o : Op) (a : Answer) → (answered_by slot e t s o a).place ≡ t.place
    answered_place s (op.Header i header.Get) (answer.Header h) = by (looks_under_lock_at s i (course_of slot t).place)
      where
        by : (b : Bool) → (cond b (track_looked slot e h t) t).place ≡ t.place
        by true = refl
        by false = refl
    answered_place s o a = refl

    answered_turn : (s : SiteId) (o : Op) (a : Answer) → (answered_by slot e t s o a).turn ≡ t.turn
    answered_turn s (op.Header i header.Get) (answer.Header h) = by (looks_under_lock_at s i (course_of slot t).place)
      where
        by : (b : Bool) → (cond b (track_looked slot e h t) t).turn ≡ t.turn
        by true = refl
        by false = refl
    answered_turn s o a = refl

    answered_same : (s : SiteId) (o : Op) (a : Answer) → AreSameMembers t.lines (answered_by slot e t s o a).lines
    answered_same s (op.Header i header.Get) (answer.Header h) = by (looks_under_lock_at s i (course_of slot t).place)
      where
        by : (b : Bool) → AreSameMembers t.lines (cond b (track_looked slot e h t) t).lines
        by true = same_changed slot passed passed_is_steady t.place t.lines
        by false = same_lines t.lines
    answered_same s o a = same_lines t.lines

    -- what an answer comes to, up to the next operation
    pub record GoesOn (labels : Label → Plan) (turn_at : Label → Option ℕ) (to : Plan) (new : Track) : Type 0 where
      pub place : new.place ≡ Some p
      pub keeps : KeepsTo p.site p.image turn_at new.turn (at_operation labels to)
      pub same : AreSameMembers t.lines new.lines
      pub without : t.due ≡ [] → (m : Member) → member_of slot (t.lines p.site p.image) ≡ Some m → (number : ℕ)
          → IsPastWithout slot number (t.lines p.site p.image) → IsPastWithout slot number (new.lines p.site p.image)

    pub answer_goes : (labels : Label → Plan) (turn_at : Label → Option ℕ) → LabelsKeepTo p.site p.image turn_at labels → (to : Plan) (s : SiteId) (o : Op) (a : Answer)
        → KeepsTo p.site p.image turn_at t.turn to → GoesOn labels turn_at to (run slot to (answered_by slot e t s o a))
    answer_goes labels turn_at behind to s o a keeps =
        let after = answered_by slot e t s o a in
        let on = run_stays labels turn_at behind to after (answered_place s o a ∙ there) (subst (λ turn. KeepsTo p.site p.image turn_at turn to) (sym (answered_turn s o a)) keeps) in
        record {
          place = on.stays.place;
          keeps = on.keeps;
          same = same_then t.lines after.lines (run slot to after).lines (answered_same s o a) on.stays.same;
          without = λ none m found number is.
              let same = past_answered m found (is m found).0 s o a in
              subst (λ (u : Track). IsPastWithout slot number ((run slot to u).lines p.site p.image)) (sym same)
              ((run_stays labels turn_at behind to t there keeps).stays.without none number is);
        }

  -- ---- its end

  pub ended_members : (t : Track) (s : SiteId) (i x : ℕ) → is_member x ((ended_by slot t).lines s i) ≡ true → is_member x (t.lines s i) ≡ true
  ended_members t s i x = go t.place
    where
      go : (place : Option ImageAt) → is_member x (line_changed_at place (without slot) t.lines s i) ≡ true → is_member x (t.lines s i) ≡ true
      go None is = is
      go (Some q) is = by (is_at q.site q.image s i) is
        where
          by : (b : Bool) → is_member x (cond b (without slot (t.lines s i)) (t.lines s i)) ≡ true → is_member x (t.lines s i) ≡ true
          by true is = member_left slot x (t.lines s i) is
          by false is = is

  pub ended_ahead : (t : Track) (s : SiteId) (i x y : ℕ) → (x ≡ slot → ⊥) → (y ≡ slot → ⊥) → is_member x (ahead y (t.lines s i)) ≡ true → is_member x (ahead y ((ended_by slot t).lines s i)) ≡ true
  ended_ahead t s i x y one other is = go t.place
    where
      go : (place : Option ImageAt) → is_member x (ahead y (line_changed_at place (without slot) t.lines s i)) ≡ true
      go None = is
      go (Some q) = by (is_at q.site q.image s i)
        where
          by : (b : Bool) → is_member x (ahead y (cond b (without slot (t.lines s i)) (t.lines s i))) ≡ true
          by true = ahead_left slot x y (t.lines s i) one other is
          by false = is
