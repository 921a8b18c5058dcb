-- A request that begins knows nothing, and so goes with its place.
use Rattle.std.proofs.Common.{◌≡◌, ℕ, Option, None, sym, ◌∙◌}
use Rattle.std.proofs.lemmas.Bool.{true≢false}
use Rattle.std.proofs.lemmas.Option.{none-some}
use Rattle.rbd_kinds.specs.declared.layout.Extent.{Extent}
use Rattle.rbd_machine.specs.Knowledge.{nothing_known}
use Rattle.rbd_machine.specs.Lawful.{IsLawfulRequest}
use Rattle.rbd_machine.specs.Plan.{Standing}
use Rattle.rbd_machine.specs.declared.seat.Seat.{Seat}
use Rattle.rbd_interference.proofs.Turns.{nothing_in_turn}
use Rattle.rbd_slots.specs.declared.running.Running.{Running}
use Rattle.rbd_slots.specs.Advance.{track_of}
use Rattle.rbd_slots.specs.Lines.{LinesView}
use Rattle.rbd_slots.specs.Session.{BeginsAt}
use Rattle.rbd_slots.specs.Track.{Track, course_of}
use Rattle.rbd_slots.proofs.Way.{nowhere_course}
use Rattle.rbd_knowledge.specs.Knowing.{KnowsBy}
use Rattle.rbd_knowledge.specs.Tied.{IsTied}

nowhere_tied : (slot : ℕ) (t : Track) → t.place ≡ None → IsTied nothing_known (course_of slot t)
nowhere_tied slot t nowhere = record {
  owns = λ site image o is. absurd (none-some o is);
  sharing = λ p is. absurd (none-some p (sym (nowhere_course slot t nowhere) ∙ is));
  turn = λ site image some. absurd (true≢false (sym some));
}

module _ {R W : Type 0} (stands : R → Standing) (stands_for : Seat → W → Standing → Type 0) (extent_for : W → Option Extent) (serves : W → Type 0)
    (lawful : (seat : Seat) (work : W) (s : Standing) → serves work → stands_for seat work s → IsLawfulRequest s) where
  pub newcomer_knows : (seat : Seat) (line slot : ℕ) (work : W) (r : Running R) (lines : LinesView) → serves work → BeginsAt stands stands_for extent_for seat line work r
      → KnowsBy stands slot r lines nothing_known
  newcomer_knows seat line slot work r lines served begins =
      let is_lawful = lawful seat work (stands r.request) served begins.stands_there in
      record {
        known_at = is_lawful.known_at;
        lawful = is_lawful.plan;
        labels = is_lawful.labels;
        tied = nowhere_tied slot (track_of r lines) begins.place;
        in_turn = nothing_in_turn;
        has_turn = λ site image object some. absurd (true≢false (sym some));
      }
