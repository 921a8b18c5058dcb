-- The course of a request goes as its track does, and the courses of others stay.
use Rattle.std.proofs.Common.{◌≡◌, ℕ, inl, inr, cond, Bool, true, false, List, [], ◌∷◌, ◌++◌, drop, Option, Some, None, refl, sym, ap, ◌∙◌, subst}
use Rattle.std.specs.Option.{option_map}
use Rattle.rbd_kinds.specs.declared.sharing.Sharing.{Sharing}
use Rattle.rbd_machine.specs.Course.{Course, waited, noted, answered, course_past_look, objects_behind, looks_under_lock_at, due_of, objects_asked}
use Rattle.rbd_kinds.specs.declared.answer.Answer.{Answer}
use Rattle.rbd_kinds.specs.declared.answer.Answer.TheVariants as answer
use Rattle.rbd_kinds.specs.declared.header.HeaderView.{HeaderView}
use Rattle.rbd_kinds.specs.declared.header_op.HeaderOp.TheVariants as header
use Rattle.rbd_kinds.specs.declared.operation.Op.{Op}
use Rattle.rbd_kinds.specs.declared.operation.Op.TheVariants as op
use Rattle.rbd_kinds.specs.declared.id.SiteId.{SiteId}
use Rattle.rbd_kinds.specs.declared.id.SiteId.TheVariants as site
use Rattle.rbd_kinds.specs.declared.layout.Extent.{Extent}
use Rattle.rbd_queue.specs.Line.{Member, member_of, changed_member, new_member, held, passed}
use Rattle.rbd_machine.specs.Wait as wait
use Rattle.rbd_kinds.specs.declared.image_at.ImageAt.{ImageAt}
use Rattle.rbd_kinds.proofs.Images.{at_itself}
use Rattle.rbd_slots.specs.Track.{Track, Lines, line_changed_at, place_of_image, line_in, course_in, course_of, given_tickets, done_with, waited_by, track_noted, track_looked, answered_by}
use Rattle.rbd_slots.specs.OnTrack.{IsThere, IsSomewhere}
use Rattle.rbd_queue.specs.Steady.{IsSteady}
use Rattle.rbd_queue.proofs.Passing.{own_changed, joined_found, held_is_steady, passed_is_steady}
use Rattle.rbd_slots.proofs.Members.{not_found}

-- ---- where

-- the line of the image that changes is changed
pub changed_here : (p : ImageAt) (change : List Member → List Member) (lines : Lines) → line_in (Some p) (line_changed_at (Some p) change lines) ≡ change (lines p.site p.image)
changed_here p change lines = ap (λ b. cond b (change (lines p.site p.image)) (lines p.site p.image)) (at_itself p.site p.image)

-- ---- its own course

pub course_there : (slot : ℕ) (p : ImageAt) (m : Member) (t : Track) → IsThere slot p m t → course_of slot t ≡ course_in t.turn t.due (Some p) (Some m)
course_there slot p m t there =
    subst (λ q. course_in t.turn t.due q (member_of slot (line_in q t.lines)) ≡ course_in t.turn t.due (Some p) (Some m)) (sym there.place)
    (ap (course_in t.turn t.due (Some p)) there.member)

-- so it is after a change of its own
pub stays_there : (slot : ℕ) (p : ImageAt) (m : Member) (t : Track) (f : Member → Member) → IsSteady f → IsThere slot p m t → (turn : Option ℕ) (due : List ℕ)
    → IsThere slot p (f m) (record { place = t.place; turn = turn; due = due; lines = line_changed_at t.place (changed_member slot f) t.lines })
stays_there slot p m t f keeps there turn due = record {
  place = there.place;
  member =
      subst (λ q. member_of slot (line_changed_at q (changed_member slot f) t.lines p.site p.image) ≡ Some (f m)) (sym there.place)
      (ap (member_of slot) (changed_here p (changed_member slot f) t.lines) ∙ own_changed (t.lines p.site p.image) slot f keeps ∙ ap (option_map f) there.member);
}

pub done_steady : (turn : Option ℕ) → IsSteady (done_with turn)
done_steady None = record { slot = λ m. refl; sharing = λ m. refl; past = λ m past. past }
done_steady (Some object) = record { slot = λ m. refl; sharing = λ m. refl; past = λ m past. past }

pub given_steady : (objects : List ℕ) → IsSteady (given_tickets objects)
given_steady objects = record { slot = λ m. refl; sharing = λ m. refl; past = λ m past. past }

pub first_goes : (object : ℕ) (objects : List ℕ) → drop 1 objects ≡ objects_behind (Some object) objects
first_goes object [] = refl
first_goes object (first ∷ objects) = refl

done_course : (before turn : Option ℕ) (due : List ℕ) (p : ImageAt) (m : Member)
    → course_in turn due (Some p) (Some (done_with before m)) ≡ record (course_in turn due (Some p) (Some m)) { objects = objects_behind before m.objects }
done_course None turn due p m = refl
done_course (Some object) turn due p m =
    ap (λ objects. record (course_in turn due (Some p) (Some m)) { objects = objects }) (first_goes object m.objects)

module _ (slot : ℕ) (p : ImageAt) (m : Member) (t : Track) (there : IsThere slot p m t) where
  same_by : (change : Course → Course) → change (course_in t.turn t.due (Some p) (Some m)) ≡ change (course_of slot t)
  same_by change = ap change (sym (course_there slot p m t there))

  pub course_held : (site : SiteId) (image : ℕ) → course_of slot (waited_by slot t (wait.Hold site image)) ≡ waited (course_of slot t) (wait.Hold site image)
  course_held site image =
      course_there slot p (held m) (waited_by slot t (wait.Hold site image)) (stays_there slot p m t held held_is_steady there t.turn t.due)
      ∙ same_by (λ c. waited c (wait.Hold site image))

  pub course_turned : (object : ℕ) → course_of slot (waited_by slot t (wait.Turn object)) ≡ waited (course_of slot t) (wait.Turn object)
  course_turned object =
      course_there slot p (done_with t.turn m) (waited_by slot t (wait.Turn object)) (stays_there slot p m t (done_with t.turn) (done_steady t.turn) there (Some object) t.due)
      ∙ done_course t.turn (Some object) t.due p m ∙ same_by (λ c. waited c (wait.Turn object))

  pub course_applied : (site : SiteId) (image : ℕ) → course_of slot (waited_by slot t (wait.Applied site image)) ≡ waited (course_of slot t) (wait.Applied site image)
  course_applied site image =
      course_there slot p (done_with t.turn m) (waited_by slot t (wait.Applied site image)) (stays_there slot p m t (done_with t.turn) (done_steady t.turn) there None t.due)
      ∙ done_course t.turn None t.due p m ∙ same_by (λ c. waited c (wait.Applied site image))

  pub course_noted : course_of slot (track_noted slot t) ≡ noted (course_of slot t)
  course_noted =
      course_there slot p (given_tickets t.due m) (track_noted slot t) (stays_there slot p m t (given_tickets t.due) (given_steady t.due) there t.turn [])
      ∙ same_by noted

  pub course_looked : (e : Option Extent) (h : HeaderView) → course_of slot (track_looked slot e h t) ≡ course_past_look e h (course_of slot t)
  course_looked e h =
      course_there slot p (passed m) (track_looked slot e h t) (stays_there slot p m t passed passed_is_steady there t.turn (track_looked slot e h t).due)
      ∙ ap (λ c. course_in t.turn (due_of c.place (objects_asked h e)) (Some p) (Some (passed m))) (course_there slot p m t there)
      ∙ same_by (course_past_look e h)

pub course_joined : (slot : ℕ) (t : Track) (site : SiteId) (image : ℕ) (sharing : Sharing) → t.place ≡ None → member_of slot (t.lines site image) ≡ None
    → course_of slot (waited_by slot t (wait.Join site image sharing)) ≡ waited (course_of slot t) (wait.Join site image sharing)
course_joined slot t site image sharing nowhere none =
    ap (course_in t.turn t.due (Some (place_of_image site image)))
    (ap (member_of slot) (changed_here (place_of_image site image) (λ members. members ++ new_member slot sharing ∷ []) t.lines) ∙ joined_found (t.lines site image) slot sharing (not_found slot (t.lines site image) none))
    ∙ subst (λ q. course_in t.turn t.due (Some (place_of_image site image)) (Some (new_member slot sharing)) ≡ waited (course_in t.turn t.due q (member_of slot (line_in q t.lines))) (wait.Join site image sharing)) (sym nowhere) refl

pub course_left : (slot : ℕ) (t : Track) (site : SiteId) (image : ℕ) → course_of slot (waited_by slot t (wait.Leave site image)) ≡ waited (course_of slot t) (wait.Leave site image)
course_left slot t site image = refl

pub course_answered : (slot : ℕ) (e : Option Extent) (t : Track) (s : SiteId) (o : Op) (a : Answer) → IsSomewhere slot t
    → course_of slot (answered_by slot e t s o a) ≡ answered e (course_of slot t) s o a
course_answered slot e t s (op.Header image header.Get) (answer.Header h) somewhere =
    go (looks_under_lock_at s image (course_of slot t).place) refl somewhere
  where
    go : (b : Bool) → looks_under_lock_at s image (course_of slot t).place ≡ b → IsSomewhere slot t → course_of slot (cond b (track_looked slot e h t) t) ≡ cond b (course_past_look e h (course_of slot t)) (course_of slot t)
    go false is somewhere = refl
    go true is (inr (p, m, there)) = course_looked slot p m t there e h
    go true is (inl nowhere) =
        let no : false ≡ true = sym (ap (λ q. looks_under_lock_at s image (course_in t.turn t.due q (member_of slot (line_in q t.lines))).place) nowhere) ∙ is in cc
course_answered slot e t s o a somewhere = refl
