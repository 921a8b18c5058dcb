-- A request stays on its track, whatever it waits for and is answered.
use Rattle.std.proofs.Common.{◌≡◌, ◌⊎◌, inl, inr, ℕ, cond, not, Bool, true, false, List, [], ◌∷◌, ◌++◌, drop, Option, Some, None, refl, sym, ap, ◌∙◌, subst}
use Rattle.rbd_kinds.specs.Sharing.{is_alone}
use Rattle.rbd_kinds.specs.declared.sharing.Sharing.{Sharing}
use Rattle.rbd_machine.specs.Course.{PlaceInLine, waited, noted, course_past_look, objects_behind, looks_under_lock_at, is_waiting, due_of, objects_asked}
use Rattle.rbd_machine.specs.Orderly.{IsFirstObject, IsInLine, IsOrderlyFrom, MayWait}
use Rattle.rbd_machine.specs.declared.stage.Stage.{Stage}
use Rattle.rbd_machine.specs.declared.stage.Stage.TheVariants as stage
use Rattle.rbd_machine.proofs.Orderly.{stays_answered, stays_waited, stays_noted}
use Rattle.rbd_guard.specs.Order.{AreApart}
use Rattle.rbd_kinds.specs.Form.{IsHeaderInForm}
use Rattle.rbd_kinds.specs.declared.answer.Answer.{Answer}
use Rattle.rbd_kinds.specs.declared.answer.Answer.TheVariants as answer
use Rattle.rbd_kinds.specs.declared.header.HeaderView.{HeaderView}
use Rattle.rbd_kinds.specs.declared.header_op.HeaderOp.TheVariants as header
use Rattle.rbd_kinds.specs.declared.id.SiteId.{SiteId}
use Rattle.rbd_kinds.specs.declared.journal.JournalEvent.{JournalEvent}
use Rattle.rbd_kinds.specs.declared.layout.Extent.{Extent}
use Rattle.rbd_kinds.specs.declared.operation.Op.{Op}
use Rattle.rbd_kinds.specs.declared.operation.Op.TheVariants as op
use Rattle.rbd_queue.specs.Line.{Member, member_of, changed_member, new_member, held, passed, is_past, none_past_behind, comes_next, objects_of_slot, objects_in}
use Rattle.rbd_queue.specs.Turns.{begins_with}
use Rattle.rbd_queue.proofs.Fair.{stays_past}
use Rattle.std.proofs.lemmas.Bool.{eq-eqb, and_parts}
use Rattle.std.proofs.lemmas.Option.{same_Some}
use Rattle.rbd_machine.specs.Answers.{CanGive}
use Rattle.rbd_machine.specs.Knowledge.{is_at}
use Rattle.rbd_machine.specs.Label.{Label}
use Rattle.rbd_machine.specs.Plan.{Plan, Ask, Await, Note, Standing, past_label}
use Rattle.rbd_machine.specs.Wait.{Wait}
use Rattle.rbd_machine.specs.Wait as wait
use Rattle.rbd_machine.specs.declared.reason.Reason.{Reason}
use Rattle.rbd_kinds.specs.declared.image_at.ImageAt.{ImageAt}
use Rattle.rbd_slots.specs.OnTrack.{IsThere, IsSomewhere, IsNowhereElse, MayTakeTickets, HasNext, IsOnTrack, AreFair}
use Rattle.rbd_slots.specs.Track.{Track, line_changed_at, place_of_image, line_in, course_in, course_of, given_tickets, done_with, waited_by, track_noted, track_looked, answered_by}
use Rattle.rbd_slots.proofs.Apart.{asked_apart}
use Rattle.rbd_slots.proofs.Behind.{KeepsPast, none_past_changed, holds_none, none_past_after}
use Rattle.rbd_queue.specs.Steady.{IsSteady}
use Rattle.rbd_queue.proofs.Passing.{joined_found, held_is_steady, passed_is_steady}
use Rattle.rbd_slots.proofs.Members.{not_found}
use Rattle.rbd_slots.proofs.Others.{kept_elsewhere, joined_elsewhere, left_elsewhere}
use Rattle.rbd_slots.proofs.Track.{changed_here, course_there, stays_there, done_steady, given_steady, course_held, course_turned, course_applied, course_noted, course_looked, course_joined, first_goes}

-- ---- where it is

pub nowhere_course : (slot : ℕ) (t : Track) → t.place ≡ None → (course_of slot t).place ≡ None
nowhere_course slot t nowhere = ap (λ q. (course_in t.turn t.due q (member_of slot (line_in q t.lines))).place) nowhere

pub place_there : (slot : ℕ) (p : ImageAt) (m : Member) (t : Track) → IsThere slot p m t → (course_of slot t).place ≡ (course_in t.turn t.due (Some p) (Some m)).place
place_there slot p m t there = ap (λ c. c.place) (course_there slot p m t there)

-- who is in the line of an image isn't nowhere
pub in_line_there : (slot : ℕ) (t : Track) (site : SiteId) (image : ℕ) → IsSomewhere slot t → IsInLine site image (course_of slot t).place
    → (p : ImageAt) × (m : Member) × IsThere slot p m t
in_line_there slot t site image (inr there) in_line = there
in_line_there slot t site image (inl nowhere) in_line = elim (subst (IsInLine site image) (nowhere_course slot t nowhere) in_line) [ ]

line_there : (slot : ℕ) (p : ImageAt) (m : Member) (t : Track) → IsThere slot p m t → objects_of_slot slot (line_in t.place t.lines) ≡ m.objects
line_there slot p m t there =
    ap (λ q. objects_of_slot slot (line_in q t.lines)) there.place ∙ ap objects_in there.member

-- ---- its tickets

pub held_past : KeepsPast held
held_past m = stays_past m.stage

pub done_past : (turn : Option ℕ) → KeepsPast (done_with turn)
done_past None m = refl
done_past (Some object) m = refl

done_sharing : (turn : Option ℕ) (m : Member) → (done_with turn m).sharing ≡ m.sharing
done_sharing None m = refl
done_sharing (Some object) m = refl

done_none : (turn : Option ℕ) (m : Member) → m.objects ≡ [] → (done_with turn m).objects ≡ []
done_none None m none = none
done_none (Some object) m none = ap (drop 1) none

takes_changed : (slot : ℕ) (t : Track) (f : Member → Member) → IsSteady f → KeepsPast f → ((m : Member) → (f m).sharing ≡ m.sharing) → ((m : Member) → m.objects ≡ [] → (f m).objects ≡ [])
    → (turn : Option ℕ) → (t.due ≡ []) ⊎ MayTakeTickets slot t
    → (t.due ≡ []) ⊎ MayTakeTickets slot (record { place = t.place; turn = turn; due = t.due; lines = line_changed_at t.place (changed_member slot f) t.lines })
takes_changed slot t f keeps past same none turn (inl none_due) = inl none_due
takes_changed slot t f keeps past same none turn (inr may) = inr (record {
  place = may.place;
  member = f may.member;
  there = stays_there slot may.place may.member t f keeps may.there turn t.due;
  shared = rw (past may.member) (rw (same may.member) may.shared);
  none = none may.member may.none;
  behind =
      subst (λ q. none_past_behind slot (line_changed_at q (changed_member slot f) t.lines may.place.site may.place.image) ≡ true) (sym may.there.place)
      (ap (none_past_behind slot) (changed_here may.place (changed_member slot f) t.lines) ∙ none_past_changed f keeps past slot (t.lines may.place.site may.place.image) ∙ may.behind);
  apart = may.apart;
})

-- ---- what it waits for

-- after a change of its own that keeps it in its line
changed_on_track : (slot : ℕ) (e : Option Extent) (fresh : Bool) (s : Standing) (t : Track) (f : Member → Member) → IsSteady f → (p : ImageAt) (m : Member) → IsThere slot p m t
    → IsNowhereElse slot t.place t.lines → (turn : Option ℕ) (due : List ℕ)
    → IsOrderlyFrom e fresh (course_of slot (record { place = t.place; turn = turn; due = due; lines = line_changed_at t.place (changed_member slot f) t.lines })) s
    → (due ≡ []) ⊎ MayTakeTickets slot (record { place = t.place; turn = turn; due = due; lines = line_changed_at t.place (changed_member slot f) t.lines })
    → ((object : ℕ) → turn ≡ Some object → begins_with object (f m).objects ≡ true)
    → IsOnTrack slot e fresh s (record { place = t.place; turn = turn; due = due; lines = line_changed_at t.place (changed_member slot f) t.lines })
changed_on_track slot e fresh s t f keeps p m there elsewhere turn due orderly takes turns =
    let new = stays_there slot p m t f keeps there turn due in
    record {
      somewhere = inr (p, f m, new);
      elsewhere = kept_elsewhere slot t.place (changed_member slot f) t.lines elsewhere;
      orderly = orderly;
      takes = takes;
      turns = λ object is. ap (begins_with object) (line_there slot p (f m) _ new) ∙ turns object is;
    }

-- the turn that it has keeps
turns_there : (slot : ℕ) (p : ImageAt) (m : Member) (t : Track) → IsThere slot p m t → HasNext slot t → (object : ℕ) → t.turn ≡ Some object → begins_with object m.objects ≡ true
turns_there slot p m t there turns object is = sym (ap (begins_with object) (line_there slot p m t there)) ∙ turns object is

begins : (object : ℕ) (objects : List ℕ) → IsFirstObject object objects → begins_with object objects ≡ true
begins object [] first = elim first [ ]
begins object (x ∷ objects) first = eq-eqb x object (sym first)

begins_more : (object : ℕ) (objects more : List ℕ) → begins_with object objects ≡ true → begins_with object (objects ++ more) ≡ true
begins_more object [] more is = cc
begins_more object (x ∷ objects) more is = is

behind_none : (turn : Option ℕ) → objects_behind turn [] ≡ []
behind_none None = refl
behind_none (Some object) = refl

done_objects : (turn : Option ℕ) (m : Member) → (done_with turn m).objects ≡ objects_behind turn m.objects
done_objects None m = refl
done_objects (Some object) m = first_goes object m.objects

pub waiting_not_past : (s : Stage) → is_waiting s ≡ true → is_past s ≡ false
waiting_not_past stage.Joined is = refl
waiting_not_past stage.Waiting is = refl
waiting_not_past stage.Past is = sym is

due_apart : (place : Option PlaceInLine) (objects : List ℕ) → AreApart objects → AreApart (due_of place objects)
due_apart None objects apart = tt
due_apart (Some p) objects apart = go (is_alone p.sharing)
  where
    go : (b : Bool) → AreApart (cond b [] objects)
    go true = tt
    go false = apart

module _ (slot : ℕ) (e : Option Extent) (labels : Label → Plan) where
  abbrev at : Plan → Standing
  at plan = record { labels = labels; plan = plan }

  joined_on_track : (site : SiteId) (image : ℕ) (sharing : Sharing) (next : Plan) (t : Track) (fresh : Bool) (old : Standing) → IsOnTrack slot e fresh old t → (course_of slot t).place ≡ None
      → IsOrderlyFrom e false (waited (course_of slot t) (wait.Join site image sharing)) (at (past_label labels next))
      → IsOnTrack slot e false (at (past_label labels next)) (waited_by slot t (wait.Join site image sharing))
  joined_on_track site image sharing next t fresh old on no_place orderly = go on.somewhere
    where
      go : IsSomewhere slot t → IsOnTrack slot e false (at (past_label labels next)) (waited_by slot t (wait.Join site image sharing))
      go (inr (p, m, there)) = let no = sym (place_there slot p m t there) ∙ no_place in cc
      go (inl nowhere) =
          let nowhere_else : IsNowhereElse slot None t.lines = subst (λ q. IsNowhereElse slot q t.lines) nowhere on.elsewhere in
          let none : member_of slot (t.lines site image) ≡ None = nowhere_else site image refl in
          record {
            somewhere = inr (
              place_of_image site image,
              new_member slot sharing,
              record {
                place = refl;
                member =
                    ap (member_of slot) (changed_here (place_of_image site image) (λ members. members ++ new_member slot sharing ∷ []) t.lines)
                    ∙ joined_found (t.lines site image) slot sharing (not_found slot (t.lines site image) none);
              },
            );
            elsewhere = joined_elsewhere slot (place_of_image site image) (λ members. members ++ new_member slot sharing ∷ []) t.lines nowhere_else;
            orderly = subst (λ c. IsOrderlyFrom e false c (at (past_label labels next))) (sym (course_joined slot t site image sharing nowhere none)) orderly;
            takes = none_due nowhere on.takes;
            turns = λ object is. let no : false ≡ true = sym (ap (λ q. comes_next slot object (line_in q t.lines)) nowhere) ∙ on.turns object is in cc;
          }
        where
          none_due : t.place ≡ None → (t.due ≡ []) ⊎ MayTakeTickets slot t → (t.due ≡ []) ⊎ MayTakeTickets slot (waited_by slot t (wait.Join site image sharing))
          none_due nowhere (inl is) = inl is
          none_due nowhere (inr may) = let no = sym may.there.place ∙ nowhere in cc

  pub waited_on_track : (fresh : Bool) (w : Wait) (next : Plan) (t : Track) → IsOnTrack slot e fresh (at (Await w next)) t
      → MayWait fresh (course_of slot t) w × IsOnTrack slot e false (at (past_label labels next)) (waited_by slot t w)
  waited_on_track fresh w next t on = go w (stays_waited e fresh (course_of slot t) labels w next on.orderly)
    where
      go : (w : Wait) → MayWait fresh (course_of slot t) w × IsOrderlyFrom e false (waited (course_of slot t) w) (at (past_label labels next))
          → MayWait fresh (course_of slot t) w × IsOnTrack slot e false (at (past_label labels next)) (waited_by slot t w)
      go (wait.Join site image sharing) (may, orderly) = (may, joined_on_track site image sharing next t fresh (at (Await w next)) on may.1 orderly)
      go (wait.Hold site image) (may, orderly) =
          let (p, m, there) = in_line_there slot t site image on.somewhere may.0 in (
            may,
            changed_on_track slot e false (at (past_label labels next)) t held held_is_steady p m there on.elsewhere t.turn t.due
                (subst (λ c. IsOrderlyFrom e false c (at (past_label labels next))) (sym (course_held slot p m t there site image)) orderly)
                (takes_changed slot t held held_is_steady held_past (λ n. refl) (λ n none. none) t.turn on.takes)
                (turns_there slot p m t there on.turns),
          )
      go (wait.Applied site image) (may, orderly) =
          let (p, m, there) = in_line_there slot t site image on.somewhere may in (
            may,
            changed_on_track slot e false (at (past_label labels next)) t (done_with t.turn) (done_steady t.turn) p m there on.elsewhere None t.due
                (subst (λ c. IsOrderlyFrom e false c (at (past_label labels next))) (sym (course_applied slot p m t there site image)) orderly)
                (takes_changed slot t (done_with t.turn) (done_steady t.turn) (done_past t.turn) (done_sharing t.turn) (done_none t.turn) None on.takes)
                (λ object is. cc),
          )
      go (wait.Turn object) (may, orderly) = turned on.somewhere may orderly
        where
          turned : IsSomewhere slot t → IsFirstObject object (objects_behind t.turn (course_of slot t).objects) → IsOrderlyFrom e false (waited (course_of slot t) (wait.Turn object)) (at (past_label labels next))
              → IsFirstObject object (objects_behind t.turn (course_of slot t).objects) × IsOnTrack slot e false (at (past_label labels next)) (waited_by slot t (wait.Turn object))
          turned (inl nowhere) may orderly =
              elim (subst (IsFirstObject object) (ap (λ q. objects_behind t.turn (course_in t.turn t.due q (member_of slot (line_in q t.lines))).objects) nowhere ∙ behind_none t.turn) may) [ ]
          turned (inr (p, m, there)) may orderly =
              let first : IsFirstObject object (done_with t.turn m).objects =
              subst (IsFirstObject object) (ap (λ c. objects_behind t.turn c.objects) (course_there slot p m t there) ∙ sym (done_objects t.turn m)) may in (
                may,
                changed_on_track slot e false (at (past_label labels next)) t (done_with t.turn) (done_steady t.turn) p m there on.elsewhere (Some object) t.due
                    (subst (λ c. IsOrderlyFrom e false c (at (past_label labels next))) (sym (course_turned slot p m t there object)) orderly)
                    (takes_changed slot t (done_with t.turn) (done_steady t.turn) (done_past t.turn) (done_sharing t.turn) (done_none t.turn) (Some object) on.takes)
                    (λ other is. begins other (done_with t.turn m).objects (subst (λ o. IsFirstObject o (done_with t.turn m).objects) (same_Some object other is) first)),
              )
      go (wait.Leave site image) (may, orderly) = (
        may,
        record {
          somewhere = inl refl;
          elsewhere = left_elsewhere slot t.place t.lines on.elsewhere;
          orderly = orderly;
          takes = inl refl;
          turns = λ object is. cc;
        },
      )

  pub noted_on_track : (fresh : Bool) (site : SiteId) (image : ℕ) (event : JournalEvent) (next : Plan) (t : Track) → IsOnTrack slot e fresh (at (Note site image event next)) t
      → IsInLine site image (course_of slot t).place × IsOnTrack slot e fresh (at (past_label labels next)) (track_noted slot t)
  noted_on_track fresh site image event next t on = go (stays_noted e fresh (course_of slot t) labels site image event next on.orderly)
    where
      go : IsInLine site image (course_of slot t).place × IsOrderlyFrom e fresh (noted (course_of slot t)) (at (past_label labels next))
          → IsInLine site image (course_of slot t).place × IsOnTrack slot e fresh (at (past_label labels next)) (track_noted slot t)
      go (in_line, orderly) =
          let (p, m, there) = in_line_there slot t site image on.somewhere in_line in (
            in_line,
            changed_on_track slot e fresh (at (past_label labels next)) t (given_tickets t.due) (given_steady t.due) p m there on.elsewhere t.turn []
                (subst (λ c. IsOrderlyFrom e fresh c (at (past_label labels next))) (sym (course_noted slot p m t there)) orderly)
                (inl refl)
                (λ object is. begins_more object m.objects t.due (turns_there slot p m t there on.turns object is)),
          )

  -- ---- what it is answered

  looked_on_track : (s : SiteId) (image : ℕ) (h : HeaderView) (next : Plan) (t : Track) → IsSomewhere slot t → IsNowhereElse slot t.place t.lines → AreFair t.lines → HasNext slot t
      → IsHeaderInForm h → looks_under_lock_at s image (course_of slot t).place ≡ true → IsOrderlyFrom e true (course_past_look e h (course_of slot t)) (at (past_label labels next))
      → IsOnTrack slot e true (at (past_label labels next)) (track_looked slot e h t)
  looked_on_track s image h next t somewhere elsewhere fair turns form own orderly = go somewhere
    where
      go : IsSomewhere slot t → IsOnTrack slot e true (at (past_label labels next)) (track_looked slot e h t)
      go (inl nowhere) = let no : false ≡ true = sym (ap (looks_under_lock_at s image) (nowhere_course slot t nowhere)) ∙ own in cc
      go (inr (p, m, there)) =
          let new = stays_there slot p m t passed passed_is_steady there t.turn (track_looked slot e h t).due in
          let line = t.lines p.site p.image in
          let waiting : is_waiting m.stage ≡ true = (and_parts (is_at s image p.site p.image) (is_waiting m.stage) (sym (ap (looks_under_lock_at s image) (place_there slot p m t there)) ∙ own)).1 in
          let not_past : is_past m.stage ≡ false = waiting_not_past m.stage waiting in
          let may : is_alone m.sharing ≡ false → MayTakeTickets slot (track_looked slot e h t) = λ shared. record {
            place = p;
            member = passed m;
            there = new;
            shared = ap not shared;
            none = holds_none slot line m (fair p.site p.image) there.member not_past;
            behind =
                subst (λ q. none_past_behind slot (line_changed_at q (changed_member slot passed) t.lines p.site p.image) ≡ true) (sym there.place)
                (ap (none_past_behind slot) (changed_here p (changed_member slot passed) t.lines)
                ∙ none_past_after slot line m (fair p.site p.image) there.member not_past);
            apart = due_apart (course_of slot t).place (objects_asked h e) (asked_apart h e form);
          } in
          changed_on_track slot e true (at (past_label labels next)) t passed passed_is_steady p m there elsewhere t.turn (track_looked slot e h t).due
          (subst (λ c. IsOrderlyFrom e true c (at (past_label labels next))) (sym (course_looked slot p m t there e h)) orderly)
          (takes (is_alone m.sharing) refl (ap (λ q. due_of q (objects_asked h e)) (place_there slot p m t there)) may)
          (turns_there slot p m t there turns)
        where
          takes : (alone : Bool) → is_alone m.sharing ≡ alone → (track_looked slot e h t).due ≡ cond (is_alone m.sharing) [] (objects_asked h e) → (is_alone m.sharing ≡ false → MayTakeTickets slot (track_looked slot e h t))
              → ((track_looked slot e h t).due ≡ []) ⊎ MayTakeTickets slot (track_looked slot e h t)
          takes true is due may = inl (due ∙ ap (λ b. cond b [] (objects_asked h e)) is)
          takes false is due may = inr (may is)

  same_on_track : (fresh : Bool) (old new : Standing) (t : Track) → IsOnTrack slot e fresh old t → IsOrderlyFrom e true (course_of slot t) new → IsOnTrack slot e true new t
  same_on_track fresh old new t on orderly = record { somewhere = on.somewhere; elsewhere = on.elsewhere; orderly = orderly; takes = on.takes; turns = on.turns }

  pub answered_on_track : (fresh : Bool) (s : SiteId) (why : Reason) (o : Op) (next : Answer → Plan) (a : Answer) (t : Track) → CanGive o a → AreFair t.lines
      → IsOnTrack slot e fresh (at (Ask s why o next)) t → IsOnTrack slot e true (at (past_label labels (next a))) (answered_by slot e t s o a)
  answered_on_track fresh s why (op.Header image header.Get) next (answer.Header h) t can fair on =
      go (looks_under_lock_at s image (course_of slot t).place) refl (stays_answered e fresh (course_of slot t) labels s why (op.Header image header.Get) next (answer.Header h) can on.orderly)
    where
      go : (b : Bool) → looks_under_lock_at s image (course_of slot t).place ≡ b
          → IsOrderlyFrom e true (cond (looks_under_lock_at s image (course_of slot t).place) (course_past_look e h (course_of slot t)) (course_of slot t)) (at (past_label labels (next (answer.Header h))))
          → IsOnTrack slot e true (at (past_label labels (next (answer.Header h)))) (cond (looks_under_lock_at s image (course_of slot t).place) (track_looked slot e h t) t)
      go true own orderly =
          rw own (looked_on_track s image h (next (answer.Header h)) t on.somewhere on.elsewhere fair on.turns can.form own
          (subst (λ b. IsOrderlyFrom e true (cond b (course_past_look e h (course_of slot t)) (course_of slot t)) (at (past_label labels (next (answer.Header h))))) own orderly))
      go false own orderly =
          rw own (same_on_track fresh (at (Ask s why (op.Header image header.Get) next)) (at (past_label labels (next (answer.Header h)))) t on
          (subst (λ b. IsOrderlyFrom e true (cond b (course_past_look e h (course_of slot t)) (course_of slot t)) (at (past_label labels (next (answer.Header h))))) own orderly))
  answered_on_track fresh s why o next a t can fair on =
      same_on_track fresh (at (Ask s why o next)) (at (past_label labels (next a))) t on (stays_answered e fresh (course_of slot t) labels s why o next a can on.orderly)
