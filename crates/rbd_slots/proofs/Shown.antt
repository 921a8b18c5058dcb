-- What a session's calls find in its slots, and what they show of it behind themselves.
use Rattle.std.proofs.Common.{◌≡◌, ◌≢◌, ℕ, zero, suc, List, [], ◌∷◌, slice_set, Option, Some, None, refl, sym, ap, ◌∙◌}
use Rattle.std.proofs.lemmas.List.{get_or-set_other}
use Rattle.rbd_machine.specs.Plan.{Standing, IsAsking}
use Rattle.rbd_slots.specs.declared.running.Occupant.{Occupant}
use Rattle.rbd_slots.specs.declared.running.Running.{Running}
use Rattle.rbd_slots.specs.Advance.{track_of}
use Rattle.rbd_slots.specs.OnTrack.{HasNext}
use Rattle.rbd_slots.specs.Session.{SessionView, IsSoundSession, going_in, held_in, running_in}

-- a slot that is let go
pub freed : {T : Type 0} (slots : List (Option T)) (slot : ℕ) → held_in slot (slice_set slots slot None) ≡ None
freed [] zero = refl
freed [] (suc slot) = refl
freed (o ∷ slots) zero = refl
freed (o ∷ slots) (suc slot) = freed slots slot

pub freed_in : {T : Type 0} (before after : List (Option T)) (slot : ℕ) → after ≡ slice_set before slot None → held_in slot after ≡ None
freed_in before after slot are = ap (held_in slot) are ∙ freed before slot

-- the others, where one slot changes
pub kept_in : {T : Type 0} (before after : List (Option T)) (slot : ℕ) (held : Option T) → after ≡ slice_set before slot held → (other : ℕ) → other ≢ slot → held_in other after ≡ held_in other before
kept_in before after slot held are other differ = ap (held_in other) are ∙ get_or-set_other before slot other held None differ

module _ {R : Type 0} (stands : R → Standing) (s : SessionView R) (sound : IsSoundSession stands s) (slot : ℕ) (slots : List (Option (Occupant R))) (are : slots ≡ s.slots) where
  pub next_there : (r : Running R) → running_in (held_in slot slots) ≡ Some r → HasNext slot (track_of r s.lines)
  next_there r is = (sound.runs slot r (ap (λ xs. running_in (held_in slot xs)) (sym are) ∙ is)).turns

  pub asks_there : (r : Running R) → running_in (held_in slot slots) ≡ Some r → IsAsking (stands r.request).plan
  asks_there r is = sound.asks slot r (ap (λ xs. running_in (held_in slot xs)) (sym are) ∙ is)

  pub going_there : (now : SessionView R) → s ≡ now → going_in slot (held_in slot slots) s.lines ≡ going_in slot (held_in slot now.slots) now.lines
  going_there now same = ap (λ xs. going_in slot (held_in slot xs) s.lines) are ∙ ap (λ (v : SessionView R). going_in slot (held_in slot v.slots) v.lines) same
