-- Lines stay fair, whatever a request does in its own.
use Rattle.std.proofs.Common.{◌≡◌, ◌⊎◌, inl, inr, ℕ, ◌≤◌, ◌==◌, cond, Bool, true, false, List, [], ◌∷◌, ◌++◌, length, Option, Some, None, refl, sym, ap, ◌∙◌, subst, arith}
use Rattle.std.proofs.lemmas.Bool.{eqb-true, and_parts}
use Rattle.rbd_kinds.specs.declared.answer.Answer.{Answer}
use Rattle.rbd_kinds.specs.declared.answer.Answer.TheVariants as answer
use Rattle.rbd_kinds.specs.declared.header_op.HeaderOp.TheVariants as header
use Rattle.rbd_kinds.specs.declared.id.SiteId.{SiteId}
use Rattle.rbd_kinds.specs.declared.layout.Extent.{Extent}
use Rattle.rbd_kinds.specs.declared.machine.Want.{Want}
use Rattle.rbd_kinds.specs.declared.machine.Want.TheVariants as want
use Rattle.rbd_kinds.specs.declared.operation.Op.{Op}
use Rattle.rbd_kinds.specs.declared.operation.Op.TheVariants as op
use Rattle.rbd_machine.specs.Course.{looks_under_lock_at}
use Rattle.rbd_queue.specs.Line.{Member, LineView, changed_member, without, new_member, held, passed, entered, may_pass, may_hold_objects_in, objects_in, IsFairLine}
use Rattle.rbd_queue.proofs.Fair.{joined_fair, held_fair, passed_fair, left_fair, entered_fair, next_fair}
use Rattle.rbd_machine.specs.Knowledge.{is_at, same_site}
use Rattle.rbd_kinds.specs.declared.image_at.ImageAt.{ImageAt}
use Rattle.rbd_kinds.proofs.Images.{same_site_is}
use Rattle.rbd_slots.specs.Advance.{MayPass}
use Rattle.rbd_slots.specs.OnTrack.{MayTakeTickets, AreFair, is_here}
use Rattle.rbd_slots.specs.Track.{Track, Lines, line_changed_at, place_of_image, line_in, course_of, given_tickets, done_with, track_noted, track_looked, answered_by, passed_by, ended_by}
use Rattle.rbd_slots.proofs.Entering.{IsEntering, begins, takes_next, goes_on, ends, changed_none, given_none}
use Rattle.rbd_slots.proofs.Members.{not_found}

-- the line that changes is this one
at_here : (p : ImageAt) (lines : Lines) (site : SiteId) (image : ℕ) → is_here (Some p) site image ≡ true → lines p.site p.image ≡ lines site image
at_here p lines site image here =
    let parts = and_parts (same_site site p.site) (image == p.image) here in
    ap (λ i. lines p.site i) (sym (eqb-true image p.image parts.1)) ∙ ap (λ s. lines s image) (sym (same_site_is site p.site parts.0))

fair_at : (place : Option ImageAt) (change : List Member → List Member) (lines : Lines) → AreFair lines → ((p : ImageAt) → place ≡ Some p → IsFairLine (change (lines p.site p.image)))
    → AreFair (line_changed_at place change lines)
fair_at None change lines fair there site image = fair site image
fair_at (Some p) change lines fair there site image = go (is_at p.site p.image site image) refl
  where
    go : (b : Bool) → is_at p.site p.image site image ≡ b → IsFairLine (cond b (change (lines site image)) (lines site image))
    go true here = subst (λ ms. IsFairLine (change ms)) (at_here p lines site image here) (there p refl)
    go false other = fair site image

given_fair : (slot : ℕ) (final : List Member) (objects : List ℕ) (now : LineView) → IsEntering slot final objects now → IsFairLine now.members → IsFairLine final
given_fair slot final [] now e fair = subst IsFairLine (ends slot final now e) fair
given_fair slot final (object ∷ rest) now e fair =
    let may = takes_next slot final object rest now e in
    let new : LineView = record { members = changed_member slot (entered object) now.members; reserved = now.reserved } in
    given_fair slot final rest new (goes_on slot final object rest now new e refl (omega arith)) (entered_fair slot object now.members fair may.member may.once)

done_fair : (slot : ℕ) (turn : Option ℕ) (members : List Member) → IsFairLine members → IsFairLine (changed_member slot (done_with turn) members)
done_fair slot None members fair = subst IsFairLine (sym (changed_none slot (done_with None) (λ m. refl) members)) fair
done_fair slot (Some object) members fair = next_fair slot members fair

noted_fair : (slot : ℕ) (t : Track) → AreFair t.lines → (t.due ≡ []) ⊎ MayTakeTickets slot t → AreFair (track_noted slot t).lines
noted_fair slot t fair (inl none) =
    fair_at t.place (changed_member slot (given_tickets t.due)) t.lines fair
    (λ p is. subst IsFairLine (sym (changed_none slot (given_tickets t.due) (λ m. ap (λ objects. given_tickets objects m) none ∙ given_none m) (t.lines p.site p.image))) (fair p.site p.image))
noted_fair slot t fair (inr may) =
    fair_at t.place (changed_member slot (given_tickets t.due)) t.lines fair
    (λ p is.
    let same : Some may.place ≡ Some p = sym may.there.place ∙ is in
    subst (λ q. IsFairLine (changed_member slot (given_tickets t.due) (line_in q t.lines))) same
    (given_fair slot (changed_member slot (given_tickets t.due) (t.lines may.place.site may.place.image)) t.due
    (record { members = t.lines may.place.site may.place.image; reserved = length t.due })
    (begins slot t.due (record { members = t.lines may.place.site may.place.image; reserved = length t.due })
    (inr (record {
      member = ap may_hold_objects_in may.there.member ∙ may.shared;
      last = may.behind;
      none = ap objects_in may.there.member ∙ may.none;
      apart = may.apart;
    })) (omega arith))
    (fair may.place.site may.place.image)))

pub passed_by_fair : (slot : ℕ) → 1 ≤ slot → slot ≤ 64 → (t : Track) (w : Want) → AreFair t.lines → MayPass slot t w → AreFair (passed_by slot t w).lines
passed_by_fair slot from to t (want.Op site kind) fair may = fair
passed_by_fair slot from to t (want.Join site image sharing) fair may =
    fair_at (Some (place_of_image site image)) (λ members. members ++ new_member slot sharing ∷ []) t.lines fair
    (λ p is.
    subst (λ q. IsFairLine (line_in q t.lines ++ new_member slot sharing ∷ [])) is
    (joined_fair slot sharing (t.lines site image) (fair site image) from to (not_found slot (t.lines site image) may.1)))
passed_by_fair slot from to t (want.Hold site image) fair may = fair_at t.place (changed_member slot held) t.lines fair (λ p is. held_fair slot (t.lines p.site p.image) (fair p.site p.image))
passed_by_fair slot from to t (want.Note site image) fair may = noted_fair slot t fair may
passed_by_fair slot from to t (want.Turn object) fair may = fair_at t.place (changed_member slot (done_with t.turn)) t.lines fair (λ p is. done_fair slot t.turn (t.lines p.site p.image) (fair p.site p.image))
passed_by_fair slot from to t (want.Applied site image) fair may = fair_at t.place (changed_member slot (done_with t.turn)) t.lines fair (λ p is. done_fair slot t.turn (t.lines p.site p.image) (fair p.site p.image))
passed_by_fair slot from to t (want.Leave site image) fair may = fair_at t.place (without slot) t.lines fair (λ p is. left_fair slot (t.lines p.site p.image) (fair p.site p.image))

pub ended_by_fair : (slot : ℕ) (t : Track) → AreFair t.lines → AreFair (ended_by slot t).lines
ended_by_fair slot t fair = fair_at t.place (without slot) t.lines fair (λ p is. left_fair slot (t.lines p.site p.image) (fair p.site p.image))

pub answered_by_fair : (slot : ℕ) (e : Option Extent) (t : Track) (s : SiteId) (o : Op) (a : Answer) → AreFair t.lines
    → ((site : SiteId) (image : ℕ) → looks_under_lock_at site image (course_of slot t).place ≡ true → may_pass slot (line_in t.place t.lines) ≡ true) → AreFair (answered_by slot e t s o a).lines
answered_by_fair slot e t s (op.Header image header.Get) (answer.Header h) fair may = go (looks_under_lock_at s image (course_of slot t).place) refl
  where
    go : (b : Bool) → looks_under_lock_at s image (course_of slot t).place ≡ b → AreFair (cond b (track_looked slot e h t) t).lines
    go true own =
        fair_at t.place (changed_member slot passed) t.lines fair
        (λ p is. passed_fair slot (t.lines p.site p.image) (fair p.site p.image) (subst (λ q. may_pass slot (line_in q t.lines) ≡ true) is (may s image own)))
    go false other = fair
answered_by_fair slot e t s o a fair may = fair
