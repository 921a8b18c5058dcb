-- Who doesn't stand at its look under the lock doesn't, whether it waits or not.
use Rattle.std.proofs.Common.{◌≡◌, ℕ, Bool, true, false, Option, Some, None, refl, sym, ap, ◌∙◌, cond}
use Rattle.rbd_machine.specs.Plan.{Standing}
use Rattle.rbd_slots.specs.Advance.{track_of}
use Rattle.rbd_slots.specs.Lines.{LinesView}
use Rattle.rbd_slots.specs.Session.{going_in, kind_asked, look_under_lock_in, look_under_lock_of, running_in}
use Rattle.rbd_slots.specs.Waits.{waits}
use Rattle.rbd_slots.specs.declared.running.Occupant.{Occupant}
use Rattle.rbd_slots.specs.declared.running.Occupant.TheVariants as occupant
use Rattle.rbd_slots.specs.declared.running.Running.{Running}

pub no_look_under_lock : {R : Type 0} (stands : R → Standing) (slot : ℕ) (lines : LinesView) (o : Option (Occupant R)) (r : Running R) → running_in o ≡ Some r
    → look_under_lock_of slot (kind_asked (stands r.request).plan) r.place lines ≡ None → None ≡ look_under_lock_in stands slot lines (going_in slot o lines)
no_look_under_lock {R} stands slot lines o r runs none = by o runs
  where
    goes : (q : Running R) → look_under_lock_of slot (kind_asked (stands q.request).plan) q.place lines ≡ None → (w : Bool) → look_under_lock_in stands slot lines (cond w None (Some q)) ≡ None
    goes q none true = refl
    goes q none false = none

    by : (o : Option (Occupant R)) → running_in o ≡ Some r → None ≡ look_under_lock_in stands slot lines (going_in slot o lines)
    by None runs = refl
    by (Some (occupant.Refused line refusal)) runs = refl
    by (Some (occupant.Running q)) runs =
        let same : q ≡ r = cc in
        sym (goes q (ap (λ (x : Running R). look_under_lock_of slot (kind_asked (stands x.request).plan) x.place lines) same ∙ none) (waits slot (track_of q lines)))
