-- In a session with a request some request may go on.
use Rattle.std.proofs.Common.{◌≡◌, inl, inr, ℕ, false, List, [], ◌∷◌, cond, Option, Some, None, refl, sym, ap, ◌∙◌}
use Rattle.std.proofs.lemmas.Bool.{true≢false, eq-eqb}
use Rattle.std.proofs.lemmas.Option.{none-some, same_Some}
use Rattle.rbd_queue.specs.Line.{Member, member_of}
use Rattle.rbd_machine.specs.Plan.{Standing}
use Rattle.rbd_kinds.specs.declared.image_at.ImageAt.{ImageAt}
use Rattle.rbd_slots.specs.declared.running.Occupant.{Occupant}
use Rattle.rbd_slots.specs.declared.running.Occupant.TheVariants as occupant
use Rattle.rbd_slots.specs.declared.running.Running.{Running}
use Rattle.rbd_slots.specs.Advance.{track_of}
use Rattle.rbd_slots.specs.Lines.{lines_of}
use Rattle.rbd_slots.specs.OnTrack.{HasNext, IsSomewhere}
use Rattle.rbd_slots.specs.Session.{SessionView, IsSoundSession, held_in, running_in, running_at}
use Rattle.rbd_slots.specs.Track.{Lines}
use Rattle.rbd_slots.specs.Waits.{waits}
use Rattle.rbd_slots.proofs.Consequences.{first_goes, members_run_there}
use Rattle.rbd_slots.proofs.Sound.{held_range}
use Rattle.rbd_schedule.specs.Going.{MayGo}

-- who is in no line doesn't wait
pub alone_goes : (slot : ℕ) (place : Option ImageAt) (turn : Option ℕ) (due : List ℕ) (lines : Lines) → place ≡ None
    → HasNext slot (record { place = place; turn = turn; due = due; lines = lines })
    → waits slot (record { place = place; turn = turn; due = due; lines = lines }) ≡ false
alone_goes slot None None due lines is next = refl
alone_goes slot None (Some object) due lines is next = absurd (true≢false (sym (next object refl)))
alone_goes slot (Some p) turn due lines is next = absurd (none-some p (sym is))

module _ {R : Type 0} where
  pub runs_there : (o : Option (Occupant R)) (r : Running R) → running_in o ≡ Some r → o ≡ Some (occupant.Running r)
  runs_there None r is = absurd (none-some r is)
  runs_there (Some (occupant.Refused line refusal)) r is = absurd (none-some r is)
  runs_there (Some (occupant.Running q)) r is = ap (λ x. Some (occupant.Running x)) (same_Some q r is)

  module _ (stands : R → Standing) (s : SessionView R) (sound : IsSoundSession stands s) where
    may_go : (slot : ℕ) (r : Running R) → running_at slot s ≡ Some r → waits slot (track_of r s.lines) ≡ false → MayGo s
    may_go slot r runs goes =
        let held : held_in slot s.slots ≡ Some (occupant.Running r) = runs_there (held_in slot s.slots) r runs in
        record {
          slot = slot;
          occupant = occupant.Running r;
          held = held;
          goes = goes;
          within = held_range stands s sound slot (occupant.Running r) held;
        }

    -- the first of a line that somebody is in goes on
    line_goes : (slot : ℕ) (p : ImageAt) (m : Member) → member_of slot (lines_of s.lines p.site p.image) ≡ Some m → MayGo s
    line_goes slot p m is = by (lines_of s.lines p.site p.image) refl is
      where
        by : (members : List Member) → lines_of s.lines p.site p.image ≡ members → member_of slot members ≡ Some m → MayGo s
        by [] line is = absurd (none-some m is)
        by (first ∷ members) line is =
            let found : member_of first.slot (lines_of s.lines p.site p.image) ≡ Some first
            = ap (member_of first.slot) line ∙ ap (λ b. cond b (Some first) (member_of first.slot members)) (eq-eqb first.slot first.slot refl) in
            let there = members_run_there stands s first.slot p.site p.image first sound found in
            may_go first.slot there.0 there.1 (first_goes stands s p.site p.image first members there.0 sound line there.1)

    running_goes : (slot : ℕ) (r : Running R) → running_at slot s ≡ Some r → MayGo s
    running_goes slot r runs = by (sound.runs slot r runs).somewhere
      where
        by : IsSomewhere slot (track_of r s.lines) → MayGo s
        by (inl none) = may_go slot r runs (alone_goes slot r.place r.turn [] (lines_of s.lines) none (sound.runs slot r runs).turns)
        by (inr (p, m, there)) = line_goes slot p m there.member

pub somebody_goes : {R : Type 0} (stands : R → Standing) (s : SessionView R) → IsSoundSession stands s → (slot : ℕ) (o : Occupant R) → held_in slot s.slots ≡ Some o → MayGo s
somebody_goes stands s sound slot (occupant.Refused line refusal) held = record {
  slot = slot;
  occupant = occupant.Refused line refusal;
  held = held;
  goes = tt;
  within = held_range stands s sound slot (occupant.Refused line refusal) held;
}
somebody_goes stands s sound slot (occupant.Running r) held = running_goes stands s sound slot r (ap running_in held)
