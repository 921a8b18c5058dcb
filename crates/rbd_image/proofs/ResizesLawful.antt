-- The plans do what they may.
use Rattle.std.proofs.Common.{◌≡◌, ℕ, None}
use Rattle.rbd_commands.specs.declared.command.Command.{Command}
use Rattle.rbd_commands.specs.declared.command.Command.TheVariants as command
use Rattle.rbd_kinds.specs.declared.sharing.Sharing.TheVariants as sharing
use Rattle.rbd_kinds.specs.declared.header.HeaderView.{HeaderView}
use Rattle.rbd_kinds.specs.declared.id.SiteId.{SiteId}
use Rattle.rbd_kinds.specs.Form.{IsHeaderInForm}
use Rattle.rbd_machine.specs.Knowledge.{Knowledge, nothing_known}
use Rattle.rbd_machine.specs.Label.{Label}
use Rattle.rbd_machine.specs.Lawful.{IsLawful, IsLawfulRequest}
use Rattle.rbd_machine.specs.Plan.{without_labels}
use Rattle.rbd_machine.specs.Steps.{applied}
use Rattle.rbd_machine.proofs.AtLeast.{jump_lawful}
use Rattle.rbd_machine.proofs.Lawful.{lawful_change, own_is_found, under_lock_known}
use Rattle.rbd_meaning.specs.Resizes.{resize_refuses}
use Rattle.rbd_pieces.proofs.Resized.{lawful_resize}
use Rattle.rbd_meaning.specs.Count.{object_count}
use Rattle.rbd_image.specs.Resize.{resize_plan, set_size}
use Rattle.rbd_meaning.proofs.Counts.{counts, size_is_few}

module _ (at : Label → Knowledge) (site : SiteId) where
  lawful_set_size : (to image : ℕ) (h : HeaderView) → IsHeaderInForm h → resize_refuses to h ≡ None → IsLawful at (under_lock_known sharing.Alone None site image h) (set_size site to image h)
  lawful_set_size to image h form may =
      lawful_resize site image h to at (under_lock_known sharing.Alone None site image h) (object_count h.layout to) (applied site image) form.layout (own_is_found sharing.Alone None site image h)
      (size_is_few to h form.layout may) (counts h.layout to form.layout) (λ steps are. tt)

  lawful_resize_plan : (c : Command) → IsLawful at nothing_known (resize_plan site c)
  lawful_resize_plan (command.Resize image size) = lawful_change at site image sharing.Alone (resize_refuses size) (set_size site size) (λ i h form may. lawful_set_size size i h form may)
  lawful_resize_plan _ = tt

pub lawful_resize_request : (site : SiteId) (c : Command) → IsLawfulRequest (without_labels (resize_plan site c))
lawful_resize_request site c = record { known_at = λ label. nothing_known; plan = lawful_resize_plan (λ label. nothing_known) site c; labels = jump_lawful (λ label. nothing_known) }
