-- A request at its look under the lock wants to look at a header of that site.
use Rattle.std.proofs.Common.{◌≡◌, ℕ, ◌&&◌, cond, Bool, true, false, Option, Some, None, refl, sym, ap, ◌∙◌}
use Rattle.std.specs.Option.{option_map}
use Rattle.std.proofs.lemmas.Option.{none-some, same_Some}
use Rattle.rbd_queue.specs.Line.{Member, member_of}
use Rattle.rbd_machine.specs.Plan.{Standing}
use Rattle.rbd_kinds.specs.declared.image_at.ImageAt.{ImageAt}
use Rattle.rbd_slots.specs.declared.running.Occupant.{Occupant}
use Rattle.rbd_slots.specs.declared.running.Occupant.TheVariants as occupant
use Rattle.rbd_slots.specs.declared.running.Running.{Running}
use Rattle.rbd_slots.specs.Advance.{track_of}
use Rattle.rbd_slots.specs.Lines.{lines_of}
use Rattle.rbd_slots.specs.Session.{SessionView, going_in, held_in, is_look_at, kind_asked, look_under_lock_at, look_under_lock_in, look_under_lock_of, running_at, running_in}
use Rattle.rbd_slots.specs.Waits.{waits, waits_at}

module _ {R : Type 0} (stands : R → Standing) where
  pub looks_there : (slot : ℕ) (s : SessionView R) (p : ImageAt) (r : Running R) → look_under_lock_at stands slot s ≡ Some p → running_at slot s ≡ Some r
      → is_look_at p.site (kind_asked (stands r.request).plan) ≡ true
  looks_there slot s p r at runs = by (held_in slot s.slots) runs at
    where
      here : (q : ImageAt) (k : Bool) → cond (is_look_at q.site (kind_asked (stands r.request).plan) && k) (Some q) None ≡ Some p → is_look_at p.site (kind_asked (stands r.request).plan) ≡ true
      here q k = go (is_look_at q.site (kind_asked (stands r.request).plan)) refl
        where
          go : (b : Bool) → is_look_at q.site (kind_asked (stands r.request).plan) ≡ b → cond (b && k) (Some q) None ≡ Some p → is_look_at p.site (kind_asked (stands r.request).plan) ≡ true
          go false is at = absurd (none-some p at)
          go true is at = kept k at
            where
              kept : (k : Bool) → cond k (Some q) None ≡ Some p → is_look_at p.site (kind_asked (stands r.request).plan) ≡ true
              kept true at = ap (λ (x : ImageAt). is_look_at x.site (kind_asked (stands r.request).plan)) (sym (same_Some q p at)) ∙ is
              kept false at = absurd (none-some p at)

      placed : (place : Option ImageAt) → look_under_lock_of slot (kind_asked (stands r.request).plan) place s.lines ≡ Some p → is_look_at p.site (kind_asked (stands r.request).plan) ≡ true
      placed None at = absurd (none-some p at)
      placed (Some q) at = here q (waits_at (option_map (λ (m : Member). m.stage) (member_of slot (lines_of s.lines q.site q.image)))) at

      going : (q : Running R) → q ≡ r → (b : Bool) → look_under_lock_in stands slot s.lines (cond b None (Some q)) ≡ Some p → is_look_at p.site (kind_asked (stands r.request).plan) ≡ true
      going q same true at = absurd (none-some p at)
      going q same false at = placed r.place (ap (λ x. look_under_lock_in stands slot s.lines (Some x)) (sym same) ∙ at)

      by : (o : Option (Occupant R)) → running_in o ≡ Some r → look_under_lock_in stands slot s.lines (going_in slot o s.lines) ≡ Some p → is_look_at p.site (kind_asked (stands r.request).plan) ≡ true
      by None is at = absurd (none-some r is)
      by (Some (occupant.Refused line x)) is at = absurd (none-some r is)
      by (Some (occupant.Running q)) is at = going q (same_Some q r is) (waits slot (track_of q s.lines)) at
