-- Plans that follow no row of their command.
use Rattle.std.proofs.Common.{◌≡◌, ℕ, List, length}
use Rattle.rbd_commands.specs.declared.command.Command.TheVariants as command
use Rattle.rbd_kinds.specs.declared.answer.Answer.{Answer}
use Rattle.rbd_kinds.specs.declared.answer.Answer.TheVariants as answer
use Rattle.rbd_kinds.specs.declared.data_op.DataOp.TheVariants as object
use Rattle.rbd_kinds.specs.declared.header.SnapContext.{SnapContext}
use Rattle.rbd_kinds.specs.declared.id.SiteId.{SiteId}
use Rattle.rbd_kinds.specs.declared.journal.JournalEvent.TheVariants as event
use Rattle.rbd_kinds.specs.declared.operation.Op.TheVariants as op
use Rattle.rbd_kinds.specs.declared.sharing.Sharing.TheVariants as sharing
use Rattle.rbd_machine.specs.Plan.{Plan, Await, Note}
use Rattle.rbd_machine.specs.Refused.{refuses_none}
use Rattle.rbd_machine.specs.Steps.{change_plan, joining, own}
use Rattle.rbd_machine.specs.Wait as wait
use Rattle.rbd_session.specs.Close as session
use Rattle.rbd_catalog.specs.Follows.{Follows, Outside, Held, Noted}
use Rattle.rbd_catalog.specs.Profile.{profile}

-- a write that notes a discard
pub wrong_event_is_refused : (site : SiteId) (name : List ℕ) (image at : ℕ) (bytes : List ℕ) (next : Plan)
    → Follows (profile (command.Write name at bytes)) Held (Note site image (event.Discard at (length bytes)) next) → ⊥
wrong_event_is_refused site name image at bytes next (held, noted, follows) = cc

-- a write whose event is noted behind its first change
pub late_event_is_refused : (site : SiteId) (name : List ℕ) (image number at : ℕ) (bytes : List ℕ) (context : SnapContext) (next : Answer → Plan)
    → Follows (profile (command.Write name at bytes)) Held (own site (op.Data image number (object.Empty context)) next) → ⊥
late_event_is_refused site name image number at bytes context next (may, follows) = by may.recorded
  where
    by : Held ≡ Noted → ⊥
    by is = cc

-- a quiesce that joins beside others
pub shared_quiesce_is_refused : (site : SiteId) (name : List ℕ) → Follows (profile (command.Quiesce name)) Outside (change_plan site name sharing.Shared refuses_none session.quiesced) → ⊥
shared_quiesce_is_refused site name follows = by (follows.1 (answer.Id 1))
  where
    by : Follows (profile (command.Quiesce name)) Outside (joining site sharing.Shared refuses_none session.quiesced 1) → ⊥
    by ((at, joins), next) = cc

-- a close that leaves its line before its unwatch
pub early_close_is_refused : (site : SiteId) (name : List ℕ) (image : ℕ) → Follows (profile (command.Close name)) Held (Await (wait.Leave site image) (session.unwatching site image)) → ⊥
early_close_is_refused site name image follows = follows.0
