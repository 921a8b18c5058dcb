-- Notices that a session has yet to hear.
use Rattle.std.specs.Prelude.{ℕ, ◌==◌, ◌&&◌, not, Bool, true, false, List, Option, Some, None, is_some}
use Rattle.std.specs.List.{list_any}
use Rattle.rbd_client.specs.Client.{ClientView}
use Rattle.rbd_kinds.specs.declared.notice.Notice.{Notice}
use Rattle.rbd_kinds.specs.Instances.{same_instance}
use Rattle.rbd_watch.specs.Posting.{notice_numbered}
use Rattle.rbd_world.specs.declared.event.Call.{Call}
use Rattle.rbd_world.specs.declared.event.Event.{Event}
use Rattle.rbd_world.specs.declared.event.Event.TheVariants as event
use Rattle.rbd_world.specs.declared.event.Outcome.{Outcome}
use Rattle.rbd_world.specs.declared.event.Outcome.TheVariants as outcome
use Rattle.rbd_world.specs.World.{WorldView, client_in}

-- ---- which were delivered

abbrev pub delivers : (number : ℕ) → Event → Bool
delivers number (event.Deliver other) = other == number
delivers number e = false

abbrev pub is_heard : Outcome → Bool
is_heard outcome.Heard = true
is_heard result = false

-- an instance heard the notice by the event
abbrev pub hears : (number : ℕ) → Event → Outcome → Bool
hears number e result = delivers number e && is_heard result

-- A notice was delivered where an instance heard it, and nowhere else.
abbrev pub was_heard : (number : ℕ) → List Call → Bool
was_heard number calls = list_any (λ (c : Call). hears number c.event c.outcome) calls

-- ---- which are due

-- whether an instance of the session runs
abbrev pub runs : {R : Type 0} → (session : ℕ) → WorldView R → Bool
runs session w = is_some (client_in session w.lives)

abbrev pub is_to : {R : Type 0} → Option (ClientView R) → Option Notice → Bool
is_to None n = false
is_to (Some c) None = false
is_to (Some c) (Some n) = same_instance c.session.instance n.to

-- whether a notice is to the session's instance that runs, and was neither delivered nor lost.
-- Notices to an earlier life are due to nobody.
abbrev pub is_notice_due : {R : Type 0} → (lost : (number : ℕ) → Bool) → (session number : ℕ) → WorldView R → Bool
is_notice_due lost session number w = is_to (client_in session w.lives) (notice_numbered number w.sites.mail) &&
    (not (was_heard number w.calls) && not (lost number))
