-- Each line keeps to what its command's row allows, wherever a walk of the command's plan led it.
use Rattle.std.proofs.Common.{ℕ, List}
use Rattle.rbd_kinds.specs.declared.id.SiteId.{SiteId}
use Rattle.rbd_catalog.specs.Profile.{profile}
use Rattle.rbd_catalog.specs.Touched.{HasAtMost}
use Rattle.rbd_world.specs.Run.{Asked, Happening, steps_of}
use Rattle.rbd_world.specs.Seats.{seat_at}
use Rattle.rbd_replies.proofs.Led.{IsLed}
use Rattle.rbd_replies.proofs.PassBounds.{walk_keeps_bound}
use Rattle.rbd_replies.specs.Bounds.{KeepsBound}

-- however many pieces it has
pub within : (homes : ℕ → SiteId) (line : ℕ) (run : List Happening) (asked : Asked) → IsLed homes line run asked
    → (pieces : ℕ) → HasAtMost pieces (profile asked.command).extent → KeepsBound (homes asked.who.session) asked.command pieces (steps_of line run)
within homes line run asked is pieces few =
    walk_keeps_bound (seat_at homes asked.who.session) asked.command is.led.start is.led.plan pieces few is.led.feds (steps_of line run) is.last is.led.given is.led.walk
