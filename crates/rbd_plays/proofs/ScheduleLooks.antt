-- What a schedule looks at.
use Rattle.std.proofs.Common.{◌≡◌, ℕ, Bool, List, length}
use Rattle.rbd_machine.specs.Plan.{Standing}
use Rattle.rbd_world.specs.World.{WorldView, client_in, kind_in}
use Rattle.rbd_schedule.specs.declared.given.Given.{Given}
use Rattle.rbd_schedule.specs.Notices.{is_notice_due, runs}
use Rattle.rbd_schedule.specs.Schedule.{is_held}
use Rattle.rbd_schedule.specs.Starts.{to_start}

-- Two worlds show a schedule the same: which command of a session may start, what a slot wants, and
-- whether it is held, which sessions run, and which notices are due to them.
pub record LooksAlike {R : Type 0} (stands : R → Standing) (v w : WorldView R) : Type 0 where
  pub starts : (given : List Given) (session : ℕ) → to_start given v session ≡ to_start given w session
  pub kinds : (session slot : ℕ) → kind_in stands slot (client_in session v.lives) ≡ kind_in stands slot (client_in session w.lives)
  pub held : (session slot : ℕ) → is_held session slot v ≡ is_held session slot w
  pub running : (session : ℕ) → runs session v ≡ runs session w
  pub due : (lost : (number : ℕ) → Bool) (session number : ℕ) → is_notice_due lost session number v ≡ is_notice_due lost session number w
  pub mail : length v.sites.mail ≡ length w.sites.mail
