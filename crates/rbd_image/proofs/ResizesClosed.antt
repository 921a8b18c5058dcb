-- A resize goes to no label of its own.
use Rattle.rbd_commands.specs.declared.command.Command.{Command}
use Rattle.rbd_commands.specs.declared.command.Command.TheVariants as command
use Rattle.rbd_kinds.specs.declared.sharing.Sharing.TheVariants as sharing
use Rattle.rbd_kinds.specs.declared.id.SiteId.{SiteId}
use Rattle.rbd_machine.specs.Plan.{Goto, IsClosed}
use Rattle.rbd_machine.specs.Steps.{applied}
use Rattle.rbd_machine.proofs.Closed.{closed_change}
use Rattle.rbd_meaning.specs.Resizes.{resize_refuses}
use Rattle.rbd_pieces.proofs.ZerosClosed.{closed_resize}
use Rattle.rbd_meaning.specs.Count.{object_count}
use Rattle.rbd_image.specs.Resize.{resize_plan, set_size}

pub closed_resize_plan : (site : SiteId) (c : Command) → IsClosed Goto (resize_plan site c)
closed_resize_plan site (command.Resize image to) =
    closed_change Goto site image sharing.Alone (resize_refuses to) (set_size site to) (λ found h. closed_resize Goto site found h to (object_count h.layout to) (applied site found) tt)
closed_resize_plan site _ = tt
