-- A command that joins the line of an image is no read.
use Rattle.std.proofs.Common.{◌≡◌, true, false, refl, sym}
use Rattle.std.proofs.lemmas.Bool.{true≢false}
use Rattle.rbd_commands.specs.declared.command.Command.{Command}
use Rattle.rbd_commands.specs.declared.command.Command.TheVariants as command
use Rattle.rbd_catalog.specs.Looking.{is_read}
use Rattle.rbd_catalog.specs.Profile.{joins_a_line, profile}

pub changes_are_no_reads : (c : Command) → joins_a_line (profile c) ≡ true → is_read c ≡ false
changes_are_no_reads (command.Read image snap at len) is = absurd (true≢false (sym is))
changes_are_no_reads _ is = refl
