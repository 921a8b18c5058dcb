-- The first words of commands, and the commands that name an image and nothing else.
use Rattle.std.specs.Prelude.{ℕ, List, [], ◌∷◌, codes, Option, Some, None, Result}
use Rattle.rbd_commands.specs.declared.command.Command.{Command}
use Rattle.rbd_commands.specs.declared.command.Command.TheVariants as command
use Rattle.rbd_script.specs.declared.fault.LineCause.{LineCause}
use Rattle.rbd_script.specs.declared.verb.Verb.{Verb}
use Rattle.rbd_script.specs.declared.verb.Verb.TheVariants as verb
use Rattle.rbd_script.specs.declared.verb.ImageVerb.{ImageVerb}
use Rattle.rbd_script.specs.declared.verb.ImageVerb.TheVariants as image
use Rattle.rbd_script.specs.Word.{by_word}

-- ---- a word and an image: what it says, and what says it

abbrev pub image_word : ImageVerb → List ℕ
image_word image.Remove = codes "rm"
image_word image.Info = codes "info"
image_word image.Used = codes "du"
image_word image.Flatten = codes "flatten"
image_word image.Quiesce = codes "quiesce"
image_word image.Resume = codes "resume"
image_word image.Close = codes "close"

abbrev pub image_command : ImageVerb → List ℕ → Command
image_command image.Remove i = command.Remove i
image_command image.Info i = command.Info i
image_command image.Used i = command.Used i
image_command image.Flatten i = command.Flatten i
image_command image.Quiesce i = command.Quiesce i
image_command image.Resume i = command.Resume i
image_command image.Close i = command.Close i

abbrev pub image_said : Command → Option (ImageVerb × List ℕ)
image_said (command.Remove i) = Some (image.Remove, i)
image_said (command.Info i) = Some (image.Info, i)
image_said (command.Used i) = Some (image.Used, i)
image_said (command.Flatten i) = Some (image.Flatten, i)
image_said (command.Quiesce i) = Some (image.Quiesce, i)
image_said (command.Resume i) = Some (image.Resume, i)
image_said (command.Close i) = Some (image.Close, i)
image_said _ = None

-- ---- all words

abbrev pub verb_word : Verb → List ℕ
verb_word verb.Create = codes "create"
verb_word verb.Clone = codes "clone"
verb_word verb.Write = codes "write"
verb_word verb.Fill = codes "fill"
verb_word verb.Discard = codes "discard"
verb_word verb.Read = codes "read"
verb_word verb.Resize = codes "resize"
verb_word verb.Rename = codes "rename"
verb_word (verb.Image v) = image_word v
verb_word verb.List = codes "ls"
verb_word verb.Children = codes "children"
verb_word verb.Tell = codes "tell"
verb_word verb.Snap = codes "snap"
verb_word verb.Mirror = codes "mirror"

abbrev pub all_verbs : List Verb
all_verbs =
    verb.Create
    ∷ verb.Clone
    ∷ verb.Write
    ∷ verb.Fill
    ∷ verb.Discard
    ∷ verb.Read
    ∷ verb.Resize
    ∷ verb.Rename
    ∷ verb.Image image.Remove
    ∷ verb.Image image.Info
    ∷ verb.Image image.Used
    ∷ verb.Image image.Flatten
    ∷ verb.Image image.Quiesce
    ∷ verb.Image image.Resume
    ∷ verb.Image image.Close
    ∷ verb.List
    ∷ verb.Children
    ∷ verb.Tell
    ∷ verb.Snap
    ∷ verb.Mirror
    ∷ []

unfoldable pub verb_of : List ℕ → Result Verb LineCause
verb_of token = by_word verb_word all_verbs token
