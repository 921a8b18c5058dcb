-- The forms of commands.
use Rattle.std.specs.Prelude.{ℕ, Bool, List, [], ◌∷◌, codes, Option, Result}
use Rattle.rbd_commands.specs.declared.command.Command.{Command}
use Rattle.rbd_commands.specs.declared.command.Command.TheVariants as command
use Rattle.rbd_commands.specs.declared.command.Shape.{Shape}
use Rattle.rbd_script.specs.declared.fault.LineCause.{LineCause}
use Rattle.rbd_script.specs.declared.verb.Verb.{Verb}
use Rattle.rbd_script.specs.declared.verb.Verb.TheVariants as verb
use Rattle.rbd_script.specs.declared.snap.SnapVerb.{SnapVerb}
use Rattle.rbd_script.specs.declared.snap.SnapVerb.TheVariants as snap
use Rattle.rbd_script.specs.declared.snap.OfSnap.{OfSnap}
use Rattle.rbd_script.specs.declared.snap.OfSnap.TheVariants as of_snap
use Rattle.rbd_script.specs.declared.mirror.OfMirrored.{OfMirrored}
use Rattle.rbd_script.specs.declared.mirror.OfMirrored.TheVariants as of_mirror
use Rattle.rbd_script.specs.declared.mirror.MirrorVerb.{MirrorVerb}
use Rattle.rbd_script.specs.declared.mirror.MirrorVerb.TheVariants as mirror
use Rattle.rbd_script.specs.Form.{and_then, form}
use Rattle.rbd_script.specs.Number.{greatest}
use Rattle.rbd_script.specs.Part.{Part, part_of}
use Rattle.rbd_script.specs.Part.Part.{Byte, CommandWord, Flag, Hex, Image, MirrorWord, Number, Optional, Snap, SnapWord, Target}
use Rattle.rbd_script.specs.Verbs.{image_command}

-- `[object N] [unit N] [count N] [journal]`
abbrev pub shape_parts : List Part
shape_parts = Optional (codes "object") greatest ∷ Optional (codes "unit") greatest ∷ Optional
    (codes "count") 4294967295 ∷ Flag (codes "journal") ∷ []

abbrev pub shape : Option ℕ → Option ℕ → Option ℕ → Bool → Shape
shape object unit count journal = record { object = object; unit = unit; count = count; journal = journal }

-- `create|rm|protect|unprotect|rollback IMAGE@SNAP`
abbrev pub snap_command : OfSnap → (s : List ℕ × List ℕ) → Command
snap_command of_snap.Create s = command.SnapCreate s.0 s.1
snap_command of_snap.Remove s = command.SnapRemove s.0 s.1
snap_command of_snap.Protect s = command.SnapProtect s.0 s.1
snap_command of_snap.Unprotect s = command.SnapUnprotect s.0 s.1
snap_command of_snap.Rollback s = command.SnapRollback s.0 s.1

-- `enable|demote|resync|status|follow IMAGE`
abbrev pub mirror_command : OfMirrored → List ℕ → Command
mirror_command of_mirror.Enable i = command.MirrorEnable i
mirror_command of_mirror.Demote i = command.MirrorDemote i
mirror_command of_mirror.Resync i = command.MirrorResync i
mirror_command of_mirror.Status i = command.MirrorStatus i
mirror_command of_mirror.Follow i = command.MirrorFollow i

-- behind `snap`
abbrev pub snap_form : SnapVerb → List (List ℕ) → Result Command LineCause
snap_form (snap.Of v) = form (Snap ∷ []) (snap_command v)
snap_form snap.List = form (Image ∷ []) command.SnapList

-- behind `mirror`
abbrev pub mirror_form : MirrorVerb → List (List ℕ) → Result Command LineCause
mirror_form (mirror.Of v) = form (Image ∷ []) (mirror_command v)
mirror_form mirror.Promote = form (Image ∷ Flag (codes "force") ∷ []) command.MirrorPromote

-- behind a command's word
abbrev pub command_form : Verb → List (List ℕ) → Result Command LineCause
command_form verb.Create = form (Image ∷ Number greatest ∷ shape_parts)
    (λ i size object unit count journal. command.Create i size (shape object unit count journal))
command_form verb.Clone = form (Snap ∷ Image ∷ shape_parts)
    (λ s i object unit count journal. command.Clone s.0 s.1 i (shape object unit count journal))
command_form verb.Write = form (Image ∷ Number greatest ∷ Hex ∷ []) command.Write
command_form verb.Fill = form (Image ∷ Number greatest ∷ Number 1048576 ∷ Byte ∷ []) command.Fill
command_form verb.Discard = form (Image ∷ Number greatest ∷ Number greatest ∷ []) command.Discard
command_form verb.Read = form (Target ∷ Number greatest ∷ Number 65536 ∷ []) (λ t at len. command.Read t.0 t.1 at len)
command_form verb.Resize = form (Image ∷ Number greatest ∷ []) command.Resize
command_form verb.Rename = form (Image ∷ Image ∷ []) command.Rename
command_form (verb.Image v) = form (Image ∷ []) (image_command v)
command_form verb.List = form [] command.List
command_form verb.Children = form (Snap ∷ []) (λ s. command.Children s.0 s.1)
command_form verb.Tell = form (Image ∷ Hex ∷ []) command.Tell
command_form verb.Snap = λ tokens. and_then (part_of SnapWord tokens) snap_form
command_form verb.Mirror = λ tokens. and_then (part_of MirrorWord tokens) mirror_form

-- `COMMAND`
unfoldable pub command_of_tokens : List (List ℕ) → Result Command LineCause
command_of_tokens tokens = and_then (part_of CommandWord tokens) command_form
