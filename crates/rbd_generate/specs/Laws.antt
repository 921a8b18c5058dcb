-- What holds of each script that is generated.
use Rattle.std.specs.Prelude.{◌≡◌, ℕ, ◌+◌, ◌≤◌, Bool, true, false, List, map}
use Rattle.std.specs.List.{range_with_len}
use Rattle.rbd_commands.specs.declared.command.Command.{Command}
use Rattle.rbd_commands.specs.declared.command.Command.TheVariants as command
use Rattle.rbd_script.specs.declared.script.Line.{Line}
use Rattle.rbd_script.specs.declared.script.Said.{Said}
use Rattle.rbd_script.specs.declared.script.Said.TheVariants as said
use Rattle.rbd_words.specs.declared.load.Load.{Load}
use Rattle.rbd_generate.specs.Generated.{generated_command, image_size}

-- ---- how many

abbrev pub creates_image : Command → Bool
creates_image (command.Create image size shape) = true
creates_image c = false

abbrev pub says_create : Said → Bool
says_create (said.Command session beside c) = creates_image c
says_create s = false

-- a line in which an image is made
abbrev pub makes_image : Line → Bool
makes_image line = says_create line.said

-- ---- where

-- The bytes lie inside an image, and there are some.
abbrev pub IsInImage : (at len : ℕ) → Type 0
IsInImage at len = (1 ≤ len) × (at + len ≤ image_size)

-- The command makes an image of that size, or is about bytes inside one. There are no others.
abbrev pub StaysInside : Command → Type 0
StaysInside (command.Create image size shape) = size ≡ image_size
StaysInside (command.Fill image at len byte) = IsInImage at len
StaysInside (command.Read image snap at len) = IsInImage at len
StaysInside (command.Discard image at len) = IsInImage at len
StaysInside c = ⊥

abbrev pub SaysInside : Said → Type 0
SaysInside (said.Command session beside c) = StaysInside c
SaysInside s = Unit {0}

-- ---- which

abbrev pub reads : Command → Bool
reads (command.Read image snap at len) = true
reads c = false

abbrev pub discards : Command → Bool
discards (command.Discard image at len) = true
discards c = false

abbrev pub fills : Command → Bool
fills (command.Fill image at len byte) = true
fills c = false

-- the commands of a client in four turns, one after another
abbrev pub four_turns : Load → (client turn : ℕ) → List Command
four_turns load client turn = map (generated_command load client) (range_with_len turn 4)
