-- The plans go to no label.
use Rattle.std.proofs.Common.{ℕ, ◌+◌, List, Option, Some, None}
use Rattle.rbd_kinds.specs.declared.answer.Answer.{Answer}
use Rattle.rbd_kinds.specs.declared.answer.Answer.TheVariants as answer
use Rattle.rbd_commands.specs.declared.command.Command.{Command}
use Rattle.rbd_commands.specs.declared.command.Command.TheVariants as command
use Rattle.rbd_kinds.specs.declared.header.SnapView.{SnapView}
use Rattle.rbd_kinds.specs.declared.id.SiteId.{SiteId}
use Rattle.rbd_kinds.specs.Header.{snap_named}
use Rattle.rbd_machine.specs.Label.{Label}
use Rattle.rbd_machine.specs.Plan.{Plan, Goto, IsClosed}
use Rattle.rbd_machine.specs.Steps.{applied}
use Rattle.rbd_machine.proofs.Closed.{closed_not_there, closed_on_done, closed_change}
use Rattle.rbd_meaning.specs.Snaps.{create_refuses, remove_refuses}
use Rattle.rbd_snap.specs.Snap.{on_snap, on_gone, taking_snap, putting, copying, take, unmapping, removing, remove_listed, remove_snap_plan, snap_plan}
use Rattle.rbd_image.proofs.Closed.{closed_on_bits}

module _ (labels : Label → Plan) where
  closed_on_snap : (next : Plan) → IsClosed labels next → (a : Answer) → IsClosed labels (on_snap next a)
  closed_on_snap next closed (answer.Snap snap) = closed
  closed_on_snap next closed a = closed_not_there labels a

  closed_on_gone : (next : Plan) → IsClosed labels next → (a : Answer) → IsClosed labels (on_gone next a)
  closed_on_gone next closed answer.Done = closed
  closed_on_gone next closed answer.Absent = closed
  closed_on_gone next closed a = closed_not_there labels a

  pub closed_copying : (site : SiteId) (snap : List ℕ) (image id : ℕ) (next : Plan) → IsClosed labels next → IsClosed labels (copying site snap image id next)
  closed_copying site snap image id next closed =
      closed_on_bits labels (putting site snap image id next) (λ bits. closed_on_done labels (taking_snap site snap image next) (closed_on_snap next closed))

  pub closed_removing : (site : SiteId) (image snap : ℕ) (next : Plan) → IsClosed labels next → IsClosed labels (removing site image snap next)
  closed_removing site image snap next closed = closed_on_done labels (unmapping site image snap next) (closed_on_gone next closed)

closed_remove_listed : (site : SiteId) (snap : List ℕ) (image : ℕ) (listed : Option SnapView) → IsClosed Goto (remove_listed site snap image listed)
closed_remove_listed site snap image None = tt
closed_remove_listed site snap image (Some listed) = closed_removing Goto site image listed.id (applied site image) tt

pub closed_snap : (site : SiteId) (c : Command) → IsClosed Goto (snap_plan site c)
closed_snap site (command.SnapCreate image snap) =
    closed_change Goto site image _ (create_refuses snap) (take site snap) (λ i h. closed_copying Goto site snap i (h.snap_seq + 1) (applied site i) tt)
closed_snap site (command.SnapRemove image snap) =
    closed_change Goto site image _ (remove_refuses snap) (remove_snap_plan site snap) (λ i h. closed_remove_listed site snap i (snap_named h.snaps snap))
closed_snap site _ = tt
