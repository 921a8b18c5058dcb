-- Who has its turn at an object: who stands ahead of it is past its look under the lock and has no
-- ticket for it.
use Rattle.std.proofs.Common.{◌≡◌, ℕ, ◌||◌, not, Bool, true, false, List, [], ◌∷◌, Option, Some, None, refl, sym, ap, ◌∙◌}
use Rattle.std.proofs.lemmas.Bool.{true≢false, and_parts, not-false}
use Rattle.rbd_kinds.specs.Sharing.{go_together, is_alone}
use Rattle.rbd_guard.specs.Order.{is_in}
use Rattle.rbd_queue.specs.Line.{Member, LetsPass, IsFairLine, IsFairMember, member_of, is_member, ahead, comes_next, has_turn, holds_ticket, is_past, lets_pass, objects_in}
use Rattle.rbd_queue.specs.Turns.{begins_with}
use Rattle.rbd_queue.proofs.Keeping.{found_has}
use Rattle.rbd_queue.proofs.Passing.{ahead_first, found_at}
use Rattle.rbd_slots.specs.Track.{Track, line_in}
use Rattle.rbd_slots.specs.Waits.{awaits_line, awaits_turn, lacks_turn, waits}
use Rattle.rbd_slots.proofs.Members.{at_own_slot}
use Rattle.rbd_world.specs.InLine.{IsPastWithout}
use Rattle.rbd_world.proofs.Ahead.{pair_ahead}

-- it is in the line, and has a ticket for the object
pub record HasTicket (slot number : ℕ) (members : List Member) : Type 0 where
  pub member : Member
  pub found : member_of slot members ≡ Some member
  pub has : holds_ticket number member ≡ true

pub ticket_of : (slot number : ℕ) (members : List Member) → comes_next slot number members ≡ true → HasTicket slot number members
ticket_of slot number members next = by (member_of slot members) refl next
  where
    first : (objects : List ℕ) → begins_with number objects ≡ true → is_in number objects ≡ true
    first [] is = absurd (true≢false (sym is))
    first (x ∷ objects) is = ap (λ b. b || is_in number objects) is

    by : (o : Option Member) → member_of slot members ≡ o → begins_with number (objects_in o) ≡ true → HasTicket slot number members
    by None there next = absurd (true≢false (sym next))
    by (Some m) there next = record { member = m; found = there; has = first m.objects next }

-- who doesn't wait has its turn
pub turn_of : (slot number : ℕ) (t : Track) → t.turn ≡ Some number → waits slot t ≡ false → has_turn slot number (line_in t.place t.lines) ≡ true
turn_of slot number t turn goes = not-false (has_turn slot number (line_in t.place t.lines)) (sym (ap (λ o. lacks_turn slot o (line_in t.place t.lines)) turn) ∙ lacks (awaits_line slot t) goes)
  where
    lacks : (a : Bool) → (a || awaits_turn slot t) ≡ false → awaits_turn slot t ≡ false
    lacks true is = absurd (true≢false is)
    lacks false is = is

module _ (slot number : ℕ) (members : List Member) (fair : IsFairLine members) (ticket : HasTicket slot number members) (turn : has_turn slot number members ≡ true) where
  its_past : is_past ticket.member.stage ≡ true
  its_past =
      let right = (found_has IsFairMember slot members fair.each ticket.member ticket.found).0.holds_by_right number ticket.has in
      (and_parts (is_past ticket.member.stage) (not (is_alone ticket.member.sharing)) right).0

  past_of : (m : Member) → lets_pass ticket.member.sharing m ≡ true → is_past m.stage ≡ true
  past_of m lets = (and_parts (is_past m.stage) (go_together m.sharing ticket.member.sharing) lets).0

  pub earlier_past : (x : ℕ) → is_member x (ahead slot members) ≡ true → IsPastWithout x number members
  earlier_past x before m found = (
    past_of m (pair_ahead LetsPass x slot m ticket.member members fair.passing found ticket.found before its_past),
    by (holds_ticket number m) refl,
  )
    where
      by : (b : Bool) → holds_ticket number m ≡ b → holds_ticket number m ≡ false
      by false is = is
      by true is =
          let same = found_at members x m found in
          absurd
          (true≢false
          (sym turn
          ∙ ahead_first members number slot m (at_own_slot x members m found) (ap (λ n. is_member n (ahead slot members)) same ∙ before) is))
