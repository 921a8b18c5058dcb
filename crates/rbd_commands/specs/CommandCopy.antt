-- What a command consists of, for its copy.
use Rattle.std.specs.Prelude.{ℕ, Bool, true, false, List, Option, Some, None}
use Rattle.rbd_commands.specs.declared.command.Command.{Command}
use Rattle.rbd_commands.specs.declared.command.Command.TheVariants as command

-- the image, where its name is all that has to be copied: each other part is plain
abbrev pub only_image : Command → Option (List ℕ)
only_image (command.Create image size shape) = Some image
only_image (command.Fill image at len byte) = Some image
only_image (command.Discard image at len) = Some image
only_image (command.Resize image size) = Some image
only_image (command.Remove image) = Some image
only_image (command.Info image) = Some image
only_image (command.Used image) = Some image
only_image (command.Flatten image) = Some image
only_image (command.Quiesce image) = Some image
only_image (command.Resume image) = Some image
only_image (command.Close image) = Some image
only_image (command.SnapList image) = Some image
only_image (command.MirrorEnable image) = Some image
only_image (command.MirrorDemote image) = Some image
only_image (command.MirrorPromote image force) = Some image
only_image (command.MirrorResync image) = Some image
only_image (command.MirrorStatus image) = Some image
only_image (command.MirrorFollow image) = Some image
only_image _ = None

-- two names, where it asks for nothing else
abbrev pub pair_alone : Command → Option (List ℕ × List ℕ)
pair_alone (command.Rename from to) = Some (from, to)
pair_alone (command.Children image snap) = Some (image, snap)
pair_alone (command.SnapCreate image snap) = Some (image, snap)
pair_alone (command.SnapRemove image snap) = Some (image, snap)
pair_alone (command.SnapProtect image snap) = Some (image, snap)
pair_alone (command.SnapUnprotect image snap) = Some (image, snap)
pair_alone (command.SnapRollback image snap) = Some (image, snap)
pair_alone _ = None

-- whether it has more to copy than one or two names
abbrev pub has_more : Command → Bool
has_more (command.Clone parent snap image shape) = true
has_more (command.Write image at bytes) = true
has_more (command.Read image snap at len) = true
has_more (command.Tell image bytes) = true
has_more _ = false
