-- The event of a change, where it has one: it is noted before the change does anything, and counts
-- as applied once all is done.
use Rattle.std.specs.Prelude.{ℕ, Bool, true, false, Option, Some, None}
use Rattle.rbd_kinds.specs.declared.id.SiteId.{SiteId}
use Rattle.rbd_kinds.specs.declared.journal.JournalEvent.{JournalEvent}
use Rattle.rbd_kinds.specs.declared.journal.JournalEvent.TheVariants as event
use Rattle.rbd_kinds.specs.declared.reply.Reply.TheVariants as reply
use Rattle.rbd_machine.specs.Plan.{Plan, Note, Return}
use Rattle.rbd_machine.specs.Steps.{applied}

-- the end of a change, behind all that it does
abbrev pub ending : SiteId → (image : ℕ) → (noted : Bool) → Plan
ending site image true = applied site image
ending site image false = Return reply.Done

-- what a change does, behind its event
abbrev pub noting : SiteId → (image : ℕ) → Option JournalEvent → (act : (next : Plan) → Plan) → Plan
noting site image None act = act (ending site image false)
noting site image (Some e) act = Note site image e (act (ending site image true))

-- the event that is noted where there is one (and any where there is none)
abbrev pub event_or_any : Option JournalEvent → JournalEvent
event_or_any None = event.Demote
event_or_any (Some e) = e
