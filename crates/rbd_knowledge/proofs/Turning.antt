-- Turns in the lines of a session: who has one keeps it, whatever another request does, and its own
-- until it ends the piece.
use Rattle.std.proofs.Common.{◌≡◌, ◌≢◌, ◌⊎◌, inl, inr, ℕ, cond, Bool, true, false, List, [], ◌∷◌, ◌++◌, Option, Some, None, refl, sym, ap, ◌∙◌, subst}
use Rattle.std.proofs.lemmas.Bool.{not-false, or_parts}
use Rattle.std.proofs.lemmas.List.{append-nil}
use Rattle.std.proofs.lemmas.Option.{same_Some}
use Rattle.rbd_kinds.specs.declared.sharing.Sharing.{Sharing}
use Rattle.rbd_machine.specs.Course.{looks_under_lock_at}
use Rattle.rbd_guard.specs.Order.{is_in}
use Rattle.rbd_guard.proofs.Apart.{in_left}
use Rattle.rbd_kinds.specs.declared.answer.Answer.{Answer}
use Rattle.rbd_kinds.specs.declared.answer.Answer.TheVariants as answer
use Rattle.rbd_kinds.specs.declared.header_op.HeaderOp.TheVariants as header
use Rattle.rbd_kinds.specs.declared.id.SiteId.{SiteId}
use Rattle.rbd_kinds.specs.declared.image_at.ImageAt.{ImageAt}
use Rattle.rbd_kinds.specs.declared.layout.Extent.{Extent}
use Rattle.rbd_kinds.specs.declared.operation.Op.{Op}
use Rattle.rbd_kinds.specs.declared.operation.Op.TheVariants as op
use Rattle.rbd_queue.specs.Line.{Member, changed_member, has_turn, held, holds_ticket, new_member, none_past_behind, passed, without}
use Rattle.rbd_machine.specs.Knowledge.{is_at}
use Rattle.rbd_machine.specs.Wait.{Wait}
use Rattle.rbd_machine.specs.Wait as wait
use Rattle.rbd_interference.proofs.Less.{place_of}
use Rattle.rbd_slots.specs.OnTrack.{AreFair, MayTakeTickets}
use Rattle.rbd_slots.specs.Track.{Track, Lines, answered_by, line_changed_at, course_of, done_with, ended_by, given_tickets, place_of_image, line_in, track_looked, track_noted, waited_by}
use Rattle.rbd_slots.specs.Waits.{awaits_line, awaits_turn, lacks_turn, waits}
use Rattle.rbd_slots.proofs.Track.{changed_here}
use Rattle.rbd_knowledge.specs.Knowing.{KeepsTurns}
use Rattle.rbd_knowledge.proofs.Firsts.{before_first, joined_first, left_first, no_more_first, others_first, own_first}

-- ---- in all lines

-- whoever has a turn keeps it in each line, where the change of the one line leaves it
first_at : (n object : ℕ) (place : Option ImageAt) (change : List Member → List Member) (lines : Lines)
    → ((p : ImageAt) → place ≡ Some p → has_turn n object (lines p.site p.image) ≡ true → has_turn n object (change (lines p.site p.image)) ≡ true)
    → (site : SiteId) (image : ℕ) → has_turn n object (lines site image) ≡ true → has_turn n object (line_changed_at place change lines site image) ≡ true
first_at n object None change lines keeps site image is = is
first_at n object (Some p) change lines keeps site image is = by (is_at p.site p.image site image) refl
  where
    by : (b : Bool) → is_at p.site p.image site image ≡ b → has_turn n object (cond b (change (lines site image)) (lines site image)) ≡ true
    by false other = is
    by true here =
        let same = place_of p.site site p.image image here in
        let line : lines p.site p.image ≡ lines site image = ap (λ s. lines s p.image) same.0 ∙ ap (lines site) same.1 in
        subst (λ ms. has_turn n object (change ms) ≡ true) line (keeps p refl (subst (λ ms. has_turn n object ms ≡ true) (sym line) is))

-- ---- of another request

done_fewer : (object : ℕ) (turn : Option ℕ) (m : Member) → holds_ticket object m ≡ false → holds_ticket object (done_with turn m) ≡ false
done_fewer object None m out = out
done_fewer object (Some of) m out = no_more_first object m.objects out

module _ (slot n object : ℕ) (differ : n ≢ slot) where
  -- where it holds no more than before
  kept_at : (f : Member → Member) → ((m : Member) → holds_ticket object m ≡ false → holds_ticket object (f m) ≡ false) → (place : Option ImageAt) (lines : Lines)
      → (site : SiteId) (image : ℕ) → has_turn n object (lines site image) ≡ true → has_turn n object (line_changed_at place (changed_member slot f) lines site image) ≡ true
  kept_at f fewer place lines = first_at n object place (changed_member slot f) lines (λ p is. others_first n object slot f differ fewer (lines p.site p.image))

  left_at : (place : Option ImageAt) (lines : Lines) (site : SiteId) (image : ℕ) → has_turn n object (lines site image) ≡ true → has_turn n object (line_changed_at place (without slot) lines site image) ≡ true
  left_at place lines = first_at n object place (without slot) lines (λ p is. left_first n object slot differ (lines p.site p.image))

  waited_first : (t : Track) (w : Wait) (site : SiteId) (image : ℕ) → has_turn n object (t.lines site image) ≡ true → has_turn n object ((waited_by slot t w).lines site image) ≡ true
  waited_first t (wait.Join there of sharing) = first_at n object (Some (place_of_image there of)) (λ ms. ms ++ new_member slot sharing ∷ []) t.lines (λ p is. joined_first n object (new_member slot sharing) (t.lines p.site p.image))
  waited_first t (wait.Hold there of) = kept_at held (λ m out. out) t.place t.lines
  waited_first t (wait.Turn at) = kept_at (done_with t.turn) (λ m out. done_fewer object t.turn m out) t.place t.lines
  waited_first t (wait.Applied there of) = kept_at (done_with t.turn) (λ m out. done_fewer object t.turn m out) t.place t.lines
  waited_first t (wait.Leave there of) = left_at t.place t.lines

  noted_first : (t : Track) → AreFair t.lines → (t.due ≡ []) ⊎ MayTakeTickets slot t → (site : SiteId) (image : ℕ) → has_turn n object (t.lines site image) ≡ true
      → has_turn n object ((track_noted slot t).lines site image) ≡ true
  noted_first t fair (inl none) =
      kept_at (given_tickets t.due) (λ m out. ap (λ due. is_in object (m.objects ++ due)) none ∙ ap (is_in object) (append-nil m.objects) ∙ out) t.place t.lines
  noted_first t fair (inr may) = first_at n object t.place (changed_member slot (given_tickets t.due)) t.lines (λ p is.
      let same : may.place ≡ p = same_Some may.place p (sym may.there.place ∙ is) in
      before_first n object slot (given_tickets t.due) differ (t.lines p.site p.image)
      (subst (λ (q : ImageAt). none_past_behind slot (t.lines q.site q.image) ≡ true) same may.behind) (fair p.site p.image).each)

  answered_first : (e : Option Extent) (t : Track) (s : SiteId) (o : Op) (a : Answer) (site : SiteId) (image : ℕ) → has_turn n object (t.lines site image) ≡ true
      → has_turn n object ((answered_by slot e t s o a).lines site image) ≡ true
  answered_first e t s (op.Header i header.Get) (answer.Header h) site image is = by (looks_under_lock_at s i (course_of slot t).place)
    where
      by : (b : Bool) → has_turn n object ((cond b (track_looked slot e h t) t).lines site image) ≡ true
      by true = kept_at passed (λ m out. out) t.place t.lines site image is
      by false = is
  answered_first e t s o a site image is = is

pub ended_keeps_turns : (slot : ℕ) (t : Track) → KeepsTurns slot t.lines (ended_by slot t).lines
ended_keeps_turns slot t other differ site image object is = left_at slot other object differ t.place t.lines site image is

pub waited_keeps_turns : (slot : ℕ) (t : Track) (w : Wait) → KeepsTurns slot t.lines (waited_by slot t w).lines
waited_keeps_turns slot t w other differ site image object is = waited_first slot other object differ t w site image is

pub noted_keeps_turns : (slot : ℕ) (t : Track) → AreFair t.lines → (t.due ≡ []) ⊎ MayTakeTickets slot t → KeepsTurns slot t.lines (track_noted slot t).lines
noted_keeps_turns slot t fair takes other differ site image object is = noted_first slot other object differ t fair takes site image is

pub answered_keeps_turns : (slot : ℕ) (e : Option Extent) (t : Track) (s : SiteId) (o : Op) (a : Answer) → KeepsTurns slot t.lines (answered_by slot e t s o a).lines
answered_keeps_turns slot e t s o a other differ site image object is = answered_first slot other object differ e t s o a site image is

-- ---- of its own

module _ (slot object : ℕ) where
  own_at : (f : Member → Member) → ((m : Member) → (f m).slot ≡ m.slot) → ((m : Member) → holds_ticket object m ≡ true → holds_ticket object (f m) ≡ true) → (place : Option ImageAt) (lines : Lines)
      → (site : SiteId) (image : ℕ) → has_turn slot object (lines site image) ≡ true → has_turn slot object (line_changed_at place (changed_member slot f) lines site image) ≡ true
  own_at f stays more place lines = first_at slot object place (changed_member slot f) lines (λ p is. own_first slot object f stays more (lines p.site p.image))

  pub own_joined : (t : Track) (there : SiteId) (of : ℕ) (sharing : Sharing) (site : SiteId) (image : ℕ) → has_turn slot object (t.lines site image) ≡ true
      → has_turn slot object ((waited_by slot t (wait.Join there of sharing)).lines site image) ≡ true
  own_joined t there of sharing = first_at slot object (Some (place_of_image there of)) (λ ms. ms ++ new_member slot sharing ∷ []) t.lines (λ p is. joined_first slot object (new_member slot sharing) (t.lines p.site p.image))

  pub own_held : (t : Track) (there : SiteId) (of : ℕ) (site : SiteId) (image : ℕ) → has_turn slot object (t.lines site image) ≡ true
      → has_turn slot object ((waited_by slot t (wait.Hold there of)).lines site image) ≡ true
  own_held t there of = own_at held (λ m. refl) (λ m holding. holding) t.place t.lines

  pub own_noted : (t : Track) (site : SiteId) (image : ℕ) → has_turn slot object (t.lines site image) ≡ true → has_turn slot object ((track_noted slot t).lines site image) ≡ true
  own_noted t = own_at (given_tickets t.due) (λ m. refl) (λ m holding. in_left object m.objects t.due holding) t.place t.lines

-- the turn that it has is that of the object of its piece, where it may go on
pub turn_of_goes : (slot : ℕ) (t : Track) → waits slot t ≡ false → (object : ℕ) → t.turn ≡ Some object → has_turn slot object (line_in t.place t.lines) ≡ true
turn_of_goes slot t goes object is = not-false (has_turn slot object (line_in t.place t.lines)) (sym (ap (λ turn. lacks_turn slot turn (line_in t.place t.lines)) is) ∙ (or_parts (awaits_line slot t) (awaits_turn slot t) goes).1)

-- so it is behind an answer
pub turn_answered : (slot : ℕ) (e : Option Extent) (t : Track) (s : SiteId) (o : Op) (a : Answer)
    → ((object : ℕ) → t.turn ≡ Some object → has_turn slot object (line_in t.place t.lines) ≡ true)
    → (object : ℕ) → (answered_by slot e t s o a).turn ≡ Some object → has_turn slot object (line_in (answered_by slot e t s o a).place (answered_by slot e t s o a).lines) ≡ true
turn_answered slot e t s (op.Header i header.Get) (answer.Header h) has = by (looks_under_lock_at s i (course_of slot t).place)
  where
    in_line : (object : ℕ) (place : Option ImageAt) → has_turn slot object (line_in place t.lines) ≡ true → has_turn slot object (line_in place (line_changed_at place (changed_member slot passed) t.lines)) ≡ true
    in_line object None is = is
    in_line object (Some p) is =
        subst (λ ms. has_turn slot object ms ≡ true) (sym (changed_here p (changed_member slot passed) t.lines)) (own_first slot object passed (λ m. refl) (λ m holding. holding) (t.lines p.site p.image) is)

    by : (b : Bool) (object : ℕ) → (cond b (track_looked slot e h t) t).turn ≡ Some object → has_turn slot object (line_in (cond b (track_looked slot e h t) t).place (cond b (track_looked slot e h t) t).lines) ≡ true
    by true object is = in_line object t.place (has object is)
    by false object is = has object is
turn_answered slot e t s o a has = has
