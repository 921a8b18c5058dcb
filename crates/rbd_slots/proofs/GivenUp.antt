-- A session without a request that was given up.
use Rattle.std.proofs.Common.{◌≡◌, ℕ, ◌≤◌, List, slice_set, Option, Some, None, refl, sym, ap, ◌∙◌, subst}
use Rattle.std.proofs.lemmas.Option.{none-some}
use Rattle.rbd_kinds.specs.declared.id.SiteId.{SiteId}
use Rattle.rbd_queue.specs.Line.{member_of, without}
use Rattle.rbd_machine.specs.Plan.{Standing}
use Rattle.rbd_slots.specs.declared.running.Occupant.{Occupant}
use Rattle.rbd_slots.specs.declared.running.Occupant.TheVariants as occupant
use Rattle.rbd_slots.specs.declared.running.Running.{Running}
use Rattle.rbd_slots.specs.Advance.{track_of}
use Rattle.rbd_slots.specs.Lines.{AreUsed, LinesView, lines_of}
use Rattle.rbd_slots.specs.OnTrack.{AreFair, LeavesOthers}
use Rattle.rbd_slots.specs.Session.{SessionView, IsSoundSession, IsLowest, held_in, running_in, running_at}
use Rattle.rbd_slots.specs.Track.{line_changed_at}
use Rattle.rbd_slots.proofs.Fairness.{ended_by_fair}
use Rattle.rbd_slots.proofs.Others.{ended_leaves, left_elsewhere}
use Rattle.rbd_slots.proofs.Sound.{held_range, set_sound}

module _ {R : Type 0} (stands : R → Standing) (s : SessionView R) (sound : IsSoundSession stands s) (slot : ℕ) (r : Running R) (runs : running_at slot s ≡ Some r) where
  -- its slot
  pub within : (1 ≤ slot) × (slot ≤ 64)
  within = range (held_in slot s.slots) refl runs
    where
      range : (o : Option (Occupant R)) → held_in slot s.slots ≡ o → running_in o ≡ Some r → (1 ≤ slot) × (slot ≤ 64)
      range (Some (occupant.Running q)) at is = held_range stands s sound slot (occupant.Running q) at
      range (Some (occupant.Refused line refusal)) at is = absurd (none-some r is)
      range None at is = absurd (none-some r is)

  -- what it leaves of the lines
  module _ (after : LinesView) (left : lines_of after ≡ line_changed_at r.place (without slot) (lines_of s.lines)) (used : AreUsed s.lines.entries → AreUsed after.entries) where
    pub leaves_others : LeavesOthers slot (lines_of s.lines) (lines_of after)
    leaves_others other differ site image = ap (λ (ls : _). member_of other (ls site image)) left ∙ ended_leaves slot (track_of r s.lines) other differ site image

    fair : AreFair (lines_of after)
    fair = subst AreFair (sym left) (ended_by_fair slot (track_of r s.lines) sound.fair)

    in_no_line : (site : SiteId) (image : ℕ) → member_of slot (lines_of after site image) ≡ None
    in_no_line site image =
        ap (λ (ls : _). member_of slot (ls site image)) left ∙ left_elsewhere slot r.place (lines_of s.lines) (sound.runs slot r runs).elsewhere site image refl

    pub given_up : (slots : List (Option (Occupant R))) (lowest : ℕ) → slots ≡ slice_set s.slots slot None → IsLowest lowest slots
        → IsSoundSession stands (record { instance = s.instance; home = s.home; slots = slots; lowest = lowest; lines = after })
    given_up slots lowest are is_lowest =
        subst (λ xs. IsSoundSession stands (record { instance = s.instance; home = s.home; slots = xs; lowest = lowest; lines = after })) (sym are)
        (set_sound stands s sound slot within.0 within.1 None lowest after leaves_others fair (used sound.used) (subst (IsLowest lowest) are is_lowest) in_no_line)
