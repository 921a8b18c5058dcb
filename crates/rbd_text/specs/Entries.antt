-- The lines of a history.
use Rattle.std.specs.Prelude.{ℕ, suc, List, [], ◌∷◌, ◌++◌, codes, decimal}
use Rattle.rbd_flat.specs.declared.effect.Effect.{Effect}
use Rattle.rbd_flat.specs.declared.effect.Effect.TheVariants as effect
use Rattle.rbd_flat.specs.declared.entry.Cause.{Cause}
use Rattle.rbd_flat.specs.declared.entry.Cause.TheVariants.{Line, Late, Replay, House}
use Rattle.rbd_flat.specs.declared.entry.Entry.{Entry}
use Rattle.rbd_flat.specs.declared.entry.Entry.TheVariants as entry
use Rattle.rbd_script.specs.declared.script.Declared.{Declared}
use Rattle.rbd_text.specs.Names.{session_name, instance_text, numbered}

-- why an operation was done: a line number, or `late:c1.0`, `replay:5:2`, `house:c1.0`
abbrev pub cause_text : List Declared → Cause → List ℕ
cause_text sessions (Line line) = decimal line
cause_text sessions (Late instance) = codes "late:" ++ instance_text sessions instance
cause_text sessions (Replay line seq) = codes "replay:" ++ decimal line ++ codes ":" ++ decimal seq
cause_text sessions (House instance) = codes "house:" ++ instance_text sessions instance

abbrev pub effect_word : Effect → List ℕ
effect_word (effect.Name name image) = codes "name"
effect_word (effect.NameFree image) = codes "namefree"
effect_word (effect.Rename from to) = codes "rename"
effect_word (effect.Create image size role) = codes "create"
effect_word (effect.Clone image parent snap) = codes "clone"
effect_word (effect.Piece image at bytes) = codes "piece"
effect_word (effect.Zero image at) = codes "zero"
effect_word (effect.Size image size) = codes "size"
effect_word (effect.Snap image snap name) = codes "snap"
effect_word (effect.Unsnap image snap) = codes "unsnap"
effect_word (effect.Status image snap status) = codes "status"
effect_word (effect.Link parent snap child) = codes "link"
effect_word (effect.Unlink parent snap child) = codes "unlink"
effect_word (effect.Role image role) = codes "role"
effect_word (effect.Gone image) = codes "gone"

abbrev pub entry_text : List Declared → Entry → List ℕ
entry_text sessions (entry.Start line instance) = codes "start " ++ decimal line ++ codes " "
    ++ instance_text sessions instance
entry_text sessions (entry.Effect cause site number e) = codes "effect " ++ cause_text sessions cause ++ codes " "
    ++ numbered site number ++ codes " " ++ effect_word e
entry_text sessions (entry.Look cause site number) = codes "look " ++ cause_text sessions cause ++ codes " "
    ++ numbered site number
entry_text sessions (entry.Fence cause site number instance) =
    codes "fence " ++ cause_text sessions cause ++ codes " " ++ numbered site number ++ codes " "
    ++ instance_text sessions instance
entry_text sessions (entry.Reply line reply) = codes "reply " ++ decimal line
entry_text sessions (entry.Stop session) = codes "stop " ++ session_name sessions session
entry_text sessions (entry.Lost line) = codes "lost " ++ decimal line

-- `h 1 start 2 c1.0`
abbrev pub entry_line : List Declared → (place : ℕ) → Entry → List ℕ
entry_line sessions place e = codes "h " ++ decimal place ++ codes " " ++ entry_text sessions e ++ 10 ∷ []

-- the lines of a history's entries from a place on
abbrev pub history_from : List Declared → (place : ℕ) → List Entry → List ℕ
history_from sessions place [] = []
history_from sessions place (e ∷ history) = entry_line sessions place e ++ history_from sessions (suc place) history

-- a history, its entries numbered from 1
abbrev pub history_text : List Declared → List Entry → List ℕ
history_text sessions history = history_from sessions 1 history
