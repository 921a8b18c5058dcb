-- Where sessions are: each has a number, and a site where it is at home.
use Rattle.std.specs.Prelude.{ℕ}
use Rattle.rbd_kinds.specs.declared.id.SiteId.{SiteId}
use Rattle.rbd_machine.specs.declared.seat.Seat.{Seat}

abbrev pub seat_of_home : (session : ℕ) → (home : SiteId) → Seat
seat_of_home session home = record { session = session; home = home }

-- where each session has its home
abbrev pub seat_at : (homes : ℕ → SiteId) → (session : ℕ) → Seat
seat_at homes session = seat_of_home session (homes session)
