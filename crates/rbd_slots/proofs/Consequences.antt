-- What follows for every session.
use Rattle.std.proofs.Common.{◌≡◌, ◌≢◌, ℕ, ◌==◌, ◌&&◌, ◌||◌, not, cond, Bool, true, false, List, [], ◌∷◌, Option, Some, None, refl, sym, ap, subst, ◌∙◌}
use Rattle.std.proofs.lemmas.Bool.{true≢false, eq-eqb, eqb-true, and_parts}
use Rattle.std.proofs.lemmas.Option.{none-some, same_Some}
use Rattle.rbd_machine.specs.Course.{is_waiting}
use Rattle.rbd_machine.specs.declared.stage.Stage.TheVariants as stage
use Rattle.rbd_kinds.specs.Sharing.{go_together, is_alone}
use Rattle.rbd_kinds.specs.declared.id.SiteId.{SiteId}
use Rattle.rbd_queue.specs.Line.{Member, member_of, is_member, is_past, ahead, holds_ticket, has_turn, may_pass, comes_next, objects_in}
use Rattle.rbd_queue.specs.Turns.{begins_with}
use Rattle.rbd_queue.proofs.Passing.{alone_past, apart_past, apart_waits, ahead_first, first_may, found_at}
use Rattle.rbd_guard.specs.Order.{is_in}
use Rattle.rbd_machine.specs.Knowledge.{same_site}
use Rattle.rbd_machine.specs.Plan.{Standing}
use Rattle.rbd_kinds.specs.declared.image_at.ImageAt.{ImageAt}
use Rattle.rbd_kinds.proofs.Images.{same_site_is}
use Rattle.rbd_slots.specs.declared.running.Occupant.{Occupant}
use Rattle.rbd_slots.specs.declared.running.Occupant.TheVariants as occupant
use Rattle.rbd_slots.specs.declared.running.Running.{Running}
use Rattle.rbd_slots.specs.Advance.{track_of}
use Rattle.rbd_slots.specs.Lines.{LinesView, lines_of}
use Rattle.rbd_slots.specs.OnTrack.{is_here}
use Rattle.rbd_slots.specs.Session.{SessionView, IsSoundSession, running_in, running_at, held_in, going_in, kind_asked, kind_at, of_going}
use Rattle.rbd_slots.specs.Track.{course_in, line_in, course_of, place_of_image}
use Rattle.rbd_slots.specs.Waits.{waits, awaits_line, awaits_turn, lacks_turn, awaits_look}

-- ---- who is alone

pub alone_beside : {R : Type 0} (stands : R → Standing) (s : SessionView R) (site : SiteId) (image : ℕ) (one other : Member) → IsSoundSession stands s
    → member_of one.slot (lines_of s.lines site image) ≡ Some one → member_of other.slot (lines_of s.lines site image) ≡ Some other
    → one.slot ≢ other.slot → is_alone one.sharing ≡ true → is_past one.stage ≡ true → is_past other.stage ≡ false
alone_beside stands s site image one other sound here there differ = alone_past (lines_of s.lines site image) one other (sound.fair site image) here there differ

pub apart_beside : {R : Type 0} (stands : R → Standing) (s : SessionView R) (site : SiteId) (image : ℕ) (one other : Member) → IsSoundSession stands s
    → member_of one.slot (lines_of s.lines site image) ≡ Some one → member_of other.slot (lines_of s.lines site image) ≡ Some other
    → one.slot ≢ other.slot → go_together one.sharing other.sharing ≡ false → is_past one.stage ≡ true → is_past other.stage ≡ false
apart_beside stands s site image one other sound here there differ = apart_past (lines_of s.lines site image) one other (sound.fair site image) here there differ

-- ---- pieces

or_true : (a : Bool) → (a || true) ≡ true
or_true true = refl
or_true false = refl

module _ {R : Type 0} (stands : R → Standing) where
  held_up : (slot : ℕ) (o : Option (Occupant R)) (lines : LinesView) (r : Running R) → running_in o ≡ Some r → waits slot (track_of r lines) ≡ true
      → of_going stands kind_asked (going_in slot o lines) ≡ None
  held_up slot None lines r runs waiting = absurd (none-some r runs)
  held_up slot (Some (occupant.Refused line refusal)) lines r runs waiting = absurd (none-some r runs)
  held_up slot (Some (occupant.Running q)) lines r runs waiting =
      ap (λ b. of_going stands kind_asked (cond b None (Some q))) (ap (λ r. waits slot (track_of r lines)) (same_Some q r runs) ∙ waiting)

  pub piece_waits : (s : SessionView R) (slot object : ℕ) (r : Running R) (p : ImageAt) (one : Member) → running_at slot s ≡ Some r → r.place ≡ Some p → r.turn ≡ Some object
      → member_of one.slot (lines_of s.lines p.site p.image) ≡ Some one → is_member one.slot (ahead slot (lines_of s.lines p.site p.image)) ≡ true → holds_ticket object one ≡ true
      → kind_at stands slot s ≡ None
  piece_waits s slot object r p one runs place turn there before held_it =
      let others : has_turn slot object (lines_of s.lines p.site p.image) ≡ false = ahead_first (lines_of s.lines p.site p.image) object slot one there before held_it in
      let lacks : awaits_turn slot (track_of r s.lines) ≡ true =
      ap (λ q. lacks_turn slot r.turn (line_in q (lines_of s.lines))) place ∙ ap (λ t. lacks_turn slot t (lines_of s.lines p.site p.image)) turn ∙ ap not others in
      held_up slot (held_in slot s.slots) s.lines r runs
      (ap (λ b. awaits_line slot (track_of r s.lines) || b) lacks ∙ or_true (awaits_line slot (track_of r s.lines)))

  pub apart_held : (s : SessionView R) (slot : ℕ) (r : Running R) (p : ImageAt) (one own : Member) → running_at slot s ≡ Some r → r.place ≡ Some p
      → member_of slot (lines_of s.lines p.site p.image) ≡ Some own → own.stage ≡ stage.Waiting → member_of one.slot (lines_of s.lines p.site p.image) ≡ Some one
      → is_member one.slot (ahead slot (lines_of s.lines p.site p.image)) ≡ true → go_together one.sharing own.sharing ≡ false → kind_at stands slot s ≡ None
  apart_held s slot r p one own runs place there waiting here before never =
      let line = lines_of s.lines p.site p.image in
      let t = track_of r s.lines in
      let at = found_at line slot own there in
      let closed : may_pass slot line ≡ false =
      subst (λ n. may_pass n line ≡ false) at
      (apart_waits line one own here (subst (λ n. member_of n line ≡ Some own) (sym at) there) never
      (subst (λ n. is_member one.slot (ahead n line) ≡ true) (sym at) before)) in
      let held : awaits_line slot t ≡ true =
      ap (λ q. awaits_look (course_in t.turn t.due q (member_of slot (line_in q (lines_of s.lines)))).place && not (may_pass slot (line_in q (lines_of s.lines)))) place
      ∙ ap (λ o. awaits_look (course_in t.turn t.due (Some p) o).place && not (may_pass slot line)) there
      ∙ ap (λ x. is_waiting x && not (may_pass slot line)) waiting
      ∙ ap not closed in
      held_up slot (held_in slot s.slots) s.lines r runs (ap (λ b. b || awaits_turn slot t) held)

-- ---- who is in a line

pub here_is : (place : Option ImageAt) (site : SiteId) (image : ℕ) → is_here place site image ≡ true → place ≡ Some (record { site = site; image = image })
here_is None site image is = absurd (true≢false (sym is))
here_is (Some p) site image is =
    let parts = and_parts (same_site site p.site) (image == p.image) is in
    sym (ap (λ (i : ℕ). Some (place_of_image site i)) (eqb-true image p.image parts.1) ∙ ap (λ s. Some (place_of_image s p.image)) (same_site_is site p.site parts.0))

module _ {R : Type 0} (stands : R → Standing) where
  place_is : (s : SessionView R) (slot : ℕ) (site : SiteId) (image : ℕ) (m : Member) → IsSoundSession stands s → member_of slot (lines_of s.lines site image) ≡ Some m
      → (r : Running R) → running_at slot s ≡ Some r → r.place ≡ Some (record { site = site; image = image })
  place_is s slot site image m sound is r runs = go (is_here r.place site image) refl
    where
      go : (b : Bool) → is_here r.place site image ≡ b → r.place ≡ Some (record { site = site; image = image })
      go true here = here_is r.place site image here
      go false other = absurd (none-some m (sym ((sound.runs slot r runs).elsewhere site image other) ∙ is))

  pub members_run_there : (s : SessionView R) (slot : ℕ) (site : SiteId) (image : ℕ) (m : Member) → IsSoundSession stands s → member_of slot (lines_of s.lines site image) ≡ Some m
      → (r : Running R) × (running_at slot s ≡ Some r) × (r.place ≡ Some (record { site = site; image = image }))
  members_run_there s slot site image m sound is = go (running_at slot s) refl
    where
      go : (o : Option (Running R)) → running_at slot s ≡ o → (r : Running R) × (running_at slot s ≡ Some r) × (r.place ≡ Some (record { site = site; image = image }))
      go None rests = absurd (none-some m (sym (sound.others slot rests site image) ∙ is))
      go (Some r) runs = (r, runs, place_is s slot site image m sound is r runs)

  -- ---- the first of a line

  first_has : (m : Member) (members : List Member) (object : ℕ) → comes_next m.slot object (m ∷ members) ≡ true → has_turn m.slot object (m ∷ members) ≡ true
  first_has m members object next = rw (begun m.objects (sym (ap (λ b. begins_with object (objects_in (cond b (Some m) (member_of m.slot members)))) (eq-eqb m.slot m.slot refl)) ∙ next)) (eq-eqb m.slot m.slot refl)
    where
      begun : (objects : List ℕ) → begins_with object objects ≡ true → is_in object objects ≡ true
      begun [] is = is
      begun (o ∷ objects) is = rw is refl

  pub first_goes : (s : SessionView R) (site : SiteId) (image : ℕ) (m : Member) (members : List Member) (r : Running R) → IsSoundSession stands s
      → lines_of s.lines site image ≡ m ∷ members → running_at m.slot s ≡ Some r → waits m.slot (track_of r s.lines) ≡ false
  first_goes s site image m members r sound line runs =
      let found : member_of m.slot (lines_of s.lines site image) ≡ Some m =
      ap (member_of m.slot) line ∙ ap (λ b. cond b (Some m) (member_of m.slot members)) (eq-eqb m.slot m.slot refl) in
      let place : r.place ≡ Some (record { site = site; image = image }) = place_is s m.slot site image m sound found r runs in
      let here : line_in r.place (lines_of s.lines) ≡ m ∷ members = ap (λ p. line_in p (lines_of s.lines)) place ∙ line in
      both (awaits_look (course_of m.slot (track_of r s.lines)).place) (may_pass m.slot (line_in r.place (lines_of s.lines))) (awaits_turn m.slot (track_of r s.lines))
      (ap (may_pass m.slot) here ∙ first_may m members)
      (turns r.turn refl here)
    where
      both : (own may lacks : Bool) → may ≡ true → lacks ≡ false → ((own && not may) || lacks) ≡ false
      both true true lacks h k = k
      both false true lacks h k = k
      both own false lacks h k = absurd (true≢false (sym h))

      turns : (turn : Option ℕ) → r.turn ≡ turn → line_in r.place (lines_of s.lines) ≡ m ∷ members → lacks_turn m.slot r.turn (line_in r.place (lines_of s.lines)) ≡ false
      turns None is here = ap (λ t. lacks_turn m.slot t (line_in r.place (lines_of s.lines))) is
      turns (Some object) is here =
          let next : comes_next m.slot object (m ∷ members) ≡ true =
          sym (ap (comes_next m.slot object) here) ∙ (sound.runs m.slot r runs).turns object is in
          ap (λ t. lacks_turn m.slot t (line_in r.place (lines_of s.lines))) is ∙ ap (λ ms. not (has_turn m.slot object ms)) here ∙ ap not (first_has m members object next)
