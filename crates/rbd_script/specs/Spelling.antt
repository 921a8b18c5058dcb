-- How commands are written, and how a schedule's lines are.
use Rattle.std.specs.Prelude.{◌≡◌, ℕ, ◌<◌, ◌≤◌, ◌++◌, Bool, true, false, List, [], ◌∷◌, codes, decimal, Option, Some, None, IfSome}
use Rattle.hex.specs.Hex.{encode_lower, IsBytes}
use Rattle.rbd_commands.specs.Command.{IsPayload}
use Rattle.rbd_values.specs.Name.{IsAskedName}
use Rattle.rbd_commands.specs.declared.command.Command.{Command}
use Rattle.rbd_commands.specs.declared.command.Command.TheVariants as command
use Rattle.rbd_commands.specs.declared.command.Shape.{Shape}
use Rattle.rbd_script.specs.declared.verb.ImageVerb.{ImageVerb}
use Rattle.rbd_script.specs.Number.{greatest}
use Rattle.rbd_script.specs.Verbs.{image_said, image_word}

-- `[WORD N]`
abbrev pub option_tokens : (word : List ℕ) → Option ℕ → List (List ℕ)
option_tokens word None = []
option_tokens word (Some n) = word ∷ decimal n ∷ []

-- `[WORD]`
abbrev pub flag_tokens : (word : List ℕ) → Bool → List (List ℕ)
flag_tokens word true = word ∷ []
flag_tokens word false = []

-- `[object N] [unit N] [count N] [journal]`
abbrev pub shape_tokens : Shape → List (List ℕ)
shape_tokens s =
    option_tokens (codes "object") s.object
    ++ (option_tokens (codes "unit") s.unit
    ++ (option_tokens (codes "count") s.count ++ flag_tokens (codes "journal") s.journal))

-- `IMAGE@SNAP`
abbrev pub snap_token : (image snap : List ℕ) → List ℕ
snap_token image snap = image ++ 64 ∷ snap

-- `IMAGE[@SNAP]`
abbrev pub target_token : (image : List ℕ) → Option (List ℕ) → List ℕ
target_token image None = image
target_token image (Some snap) = snap_token image snap

-- `WORD IMAGE`
abbrev pub image_tokens : Option (ImageVerb × List ℕ) → List (List ℕ)
image_tokens None = []
image_tokens (Some said) = image_word said.0 ∷ said.1 ∷ []

-- the tokens of a command; each one without a line here names an image and nothing else
abbrev pub spelling : Command → List (List ℕ)
spelling (command.Create image size shape) = codes "create" ∷ image ∷ decimal size ∷ shape_tokens shape
spelling (command.Clone parent snap image shape) = codes "clone" ∷ snap_token parent snap ∷ image ∷ shape_tokens shape
spelling (command.Write image at bytes) = codes "write" ∷ image ∷ decimal at ∷ encode_lower bytes ∷ []
spelling (command.Fill image at len byte) = codes "fill" ∷ image ∷ decimal at ∷ decimal len ∷ encode_lower
    (byte ∷ []) ∷ []
spelling (command.Discard image at len) = codes "discard" ∷ image ∷ decimal at ∷ decimal len ∷ []
spelling (command.Read image snap at len) = codes "read" ∷ target_token image snap ∷ decimal at ∷ decimal len ∷ []
spelling (command.Resize image size) = codes "resize" ∷ image ∷ decimal size ∷ []
spelling (command.Rename from to) = codes "rename" ∷ from ∷ to ∷ []
spelling command.List = codes "ls" ∷ []
spelling (command.Children image snap) = codes "children" ∷ snap_token image snap ∷ []
spelling (command.Tell image bytes) = codes "tell" ∷ image ∷ encode_lower bytes ∷ []
spelling (command.SnapCreate image snap) = codes "snap" ∷ codes "create" ∷ snap_token image snap ∷ []
spelling (command.SnapRemove image snap) = codes "snap" ∷ codes "rm" ∷ snap_token image snap ∷ []
spelling (command.SnapProtect image snap) = codes "snap" ∷ codes "protect" ∷ snap_token image snap ∷ []
spelling (command.SnapUnprotect image snap) = codes "snap" ∷ codes "unprotect" ∷ snap_token image snap ∷ []
spelling (command.SnapRollback image snap) = codes "snap" ∷ codes "rollback" ∷ snap_token image snap ∷ []
spelling (command.SnapList image) = codes "snap" ∷ codes "ls" ∷ image ∷ []
spelling (command.MirrorEnable image) = codes "mirror" ∷ codes "enable" ∷ image ∷ []
spelling (command.MirrorDemote image) = codes "mirror" ∷ codes "demote" ∷ image ∷ []
spelling (command.MirrorPromote image force) = codes "mirror" ∷ codes "promote" ∷ image ∷ flag_tokens
    (codes "force") force
spelling (command.MirrorResync image) = codes "mirror" ∷ codes "resync" ∷ image ∷ []
spelling (command.MirrorStatus image) = codes "mirror" ∷ codes "status" ∷ image ∷ []
spelling (command.MirrorFollow image) = codes "mirror" ∷ codes "follow" ∷ image ∷ []
spelling c = image_tokens (image_said c)

pub record IsShape (s : Shape) : Type 0 where
  pub object : IfSome s.object (λ n. n ≤ greatest)
  pub unit : IfSome s.unit (λ n. n ≤ greatest)
  pub count : IfSome s.count (λ n. n ≤ 4294967295)

-- 1 to 65,536 bytes
pub record IsHex (bytes : List ℕ) : Type 0 where
  pub long : IsPayload bytes
  pub each : IsBytes bytes

abbrev pub IsImageInRange : Option (ImageVerb × List ℕ) → Type 0
IsImageInRange None = ⊥
IsImageInRange (Some said) = IsAskedName said.1

-- the ranges of a command's parts
abbrev pub IsInRange : Command → Type 0
IsInRange (command.Create image size shape) = IsAskedName image × (size ≤ greatest) × IsShape shape
IsInRange (command.Clone parent snap image shape) = (IsAskedName parent × IsAskedName snap) × IsAskedName image
    × IsShape shape
IsInRange (command.Write image at bytes) = IsAskedName image × (at ≤ greatest) × IsHex bytes
IsInRange (command.Fill image at len byte) = IsAskedName image × (at ≤ greatest) × (len ≤ 1048576) × (byte < 256)
IsInRange (command.Discard image at len) = IsAskedName image × (at ≤ greatest) × (len ≤ greatest)
IsInRange (command.Read image snap at len) = (IsAskedName image × IfSome snap IsAskedName) × (at ≤ greatest)
    × (len ≤ 65536)
IsInRange (command.Resize image size) = IsAskedName image × (size ≤ greatest)
IsInRange (command.Rename from to) = IsAskedName from × IsAskedName to
IsInRange command.List = Unit {0}
IsInRange (command.Children image snap) = IsAskedName image × IsAskedName snap
IsInRange (command.Tell image bytes) = IsAskedName image × IsHex bytes
IsInRange (command.SnapCreate image snap) = IsAskedName image × IsAskedName snap
IsInRange (command.SnapRemove image snap) = IsAskedName image × IsAskedName snap
IsInRange (command.SnapProtect image snap) = IsAskedName image × IsAskedName snap
IsInRange (command.SnapUnprotect image snap) = IsAskedName image × IsAskedName snap
IsInRange (command.SnapRollback image snap) = IsAskedName image × IsAskedName snap
IsInRange (command.SnapList image) = IsAskedName image
IsInRange (command.MirrorEnable image) = IsAskedName image
IsInRange (command.MirrorDemote image) = IsAskedName image
IsInRange (command.MirrorPromote image force) = IsAskedName image
IsInRange (command.MirrorResync image) = IsAskedName image
IsInRange (command.MirrorStatus image) = IsAskedName image
IsInRange (command.MirrorFollow image) = IsAskedName image
IsInRange c = IsImageInRange (image_said c)

-- the tokens spell the command, which is in range
abbrev pub Spells : List (List ℕ) → Command → Type 0
Spells tokens c = (tokens ≡ spelling c) × IsInRange c
