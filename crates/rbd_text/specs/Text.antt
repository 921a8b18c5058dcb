-- What a run prints.
use Rattle.std.specs.Prelude.{ℕ, ◌==◌, List, [], ◌∷◌, ◌++◌, codes, decimal, Option, Some, None, All, if◌then◌else◌}
use Rattle.std.specs.List.{flat_map}
use Rattle.rbd_flat.specs.declared.entry.Entry.{Entry}
use Rattle.rbd_flat.specs.declared.entry.Entry.TheVariants as entry
use Rattle.rbd_kinds.specs.declared.id.SiteId.TheVariants.{A, B}
use Rattle.rbd_kinds.specs.declared.reply.Reply.{Reply}
use Rattle.rbd_script.specs.declared.script.Declared.{Declared}
use Rattle.rbd_script.specs.declared.script.Line.{Line}
use Rattle.rbd_script.specs.declared.script.Said.{Said}
use Rattle.rbd_script.specs.declared.script.Said.TheVariants.{Command}
use Rattle.rbd_script.specs.declared.script.Script.{Script}
use Rattle.rbd_site.specs.declared.done.Done.{Done}
use Rattle.rbd_text.specs.Entries.{history_text}
use Rattle.rbd_text.specs.Names.{session_name}
use Rattle.rbd_text.specs.Operations.{log_text}
use Rattle.rbd_text.specs.Replies.{reply_text, IsShowable}
use Rattle.rbd_text.specs.Unanswered.{last_of, unanswered_line}

-- whose command is said
abbrev pub speaker : Said → Option ℕ
speaker (Command session beside command) = Some session
speaker said = None

abbrev pub speaks : (line : ℕ) → Line → Option ℕ
speaks line said = if said.number == line then speaker said.said else None

-- the session whose command stands in a line
abbrev pub speaker_of : List Line → (line : ℕ) → Option ℕ
speaker_of lines line = last_of (speaks line) lines

abbrev pub speaker_name : List Declared → Option ℕ → List ℕ
speaker_name sessions None = []
speaker_name sessions (Some session) = session_name sessions session

-- `4 c1 ok 68656c6c6f`
abbrev pub spoken_line : List Declared → Option ℕ → (line : ℕ) → Reply → List ℕ
spoken_line sessions session line reply = decimal line ++ codes " " ++ speaker_name sessions session ++ codes " "
    ++ reply_text sessions reply ++ 10 ∷ []

-- the line of a reply, and nothing of another entry
abbrev pub reply_line : List Declared → List Line → Entry → List ℕ
reply_line sessions lines (entry.Reply line reply) = spoken_line sessions (speaker_of lines line) line reply
reply_line sessions lines e = []

-- the replies in the order of the history, then the commands without a reply in the order of the
-- script
abbrev pub replies_text : Script → List Entry → (a b : List Done) → List ℕ
replies_text script history a b = flat_map (reply_line script.sessions script.lines) history
    ++ flat_map (unanswered_line script.sessions a b history) script.lines

-- the history, the logs of both sites, and then the replies
abbrev pub trace_text : Script → List Entry → (a b : List Done) → List ℕ
trace_text script history a b = history_text script.sessions history ++ log_text script.sessions A a
    ++ log_text script.sessions B b ++ replies_text script history a b

abbrev pub usage_text : List ℕ
usage_text =
    codes "usage: rbd_lab run [--trace] | threads [--trace] [--turns N] | gen --seed N --clients C --commands K" ++ 10 ∷ []

abbrev pub IsShownEntry : Entry → Type 0
IsShownEntry (entry.Reply line reply) = IsShowable reply
IsShownEntry e = Unit {0}

-- each Info of a history tells a layout within the limits and a size below 2^63
abbrev pub AreShown : List Entry → Type 0
AreShown history = All IsShownEntry history
