-- What a line adds to a script.
use Rattle.std.specs.Prelude.{ℕ, Bool, true, false, if◌then◌else◌, List, [], ◌∷◌, ◌++◌, codes, Result, Ok, Err}
use Rattle.rbd_commands.specs.declared.command.Command.{Command}
use Rattle.rbd_script.specs.declared.fault.LineCause.{LineCause}
use Rattle.rbd_script.specs.declared.fault.LineCause.TheVariants.{ScheduleLine}
use Rattle.rbd_script.specs.declared.script.Declared.{Declared}
use Rattle.rbd_script.specs.declared.script.Said.{Said}
use Rattle.rbd_script.specs.declared.script.Said.TheVariants as said
use Rattle.rbd_script.specs.declared.script.Script.{Script}
use Rattle.rbd_script.specs.Command.{command_of_tokens}
use Rattle.rbd_script.specs.Form.{and_then, form}
use Rattle.rbd_script.specs.Part.{part_of}
use Rattle.rbd_script.specs.Part.Part.{NewSession, Session, Site}
use Rattle.rbd_script.specs.Schedule.{schedule_of}
use Rattle.rbd_script.specs.Token.{begins_with, is, tokens_of}

abbrev pub asked_of : (session : ℕ) (beside : Bool) → Result Command LineCause → Result Said LineCause
asked_of session beside (Ok command) = Ok (said.Command session beside command)
asked_of session beside (Err cause) = Err cause

-- `NAME COMMAND`
unfoldable pub request_of_tokens : List Declared → (beside : Bool) → List (List ℕ) → Result Said LineCause
request_of_tokens sessions beside tokens = and_then (part_of (Session sessions) tokens)
    (λ session command. asked_of session beside (command_of_tokens command))

-- `[&] NAME COMMAND`, or a line of a schedule, which isn't allowed with threads
abbrev pub said_behind : (threads : Bool) → List Declared → (first : List ℕ) → List (List ℕ) → Result Said LineCause
said_behind threads sessions first tokens =
    if begins_with 64 first then (if threads then Err ScheduleLine else schedule_of sessions (first ∷ tokens))
    else if is (codes "&") first then request_of_tokens sessions true tokens
    else request_of_tokens sessions false (first ∷ tokens)

-- one more session, or one more line
abbrev pub declaring : Script → Result Declared LineCause → Result Script LineCause
declaring s (Ok declared) = Ok (record s { sessions = s.sessions ++ declared ∷ [] })
declaring s (Err cause) = Err cause

abbrev pub saying : Script → (number : ℕ) → Result Said LineCause → Result Script LineCause
saying s number (Ok what) = Ok (record s { lines = s.lines ++ record { number = number; said = what } ∷ [] })
saying s number (Err cause) = Err cause

-- `client NAME SITE` on the line of this number, behind its first word
unfoldable pub declaration_of : List Declared → (number : ℕ) → List (List ℕ) → Result Declared LineCause
declaration_of sessions number tokens =
    form (NewSession sessions ∷ Site ∷ []) (λ name home. record { line = number; name = name; home = home }) tokens

-- A line without tokens is passed over.
abbrev pub with_tokens : (threads : Bool) (number : ℕ) → Script → List (List ℕ) → Result Script LineCause
with_tokens threads number s [] = Ok s
with_tokens threads number s (first ∷ tokens) =
    if is (codes "client") first then declaring s (declaration_of s.sessions number tokens)
    else saying s number (said_behind threads s.sessions first tokens)

-- A script with one line more, the line of this number. A line whose first byte is `#` is passed
-- over, too.
unfoldable pub with_line : (threads : Bool) (number : ℕ) → Script → List ℕ → Result Script LineCause
with_line threads number s line = if begins_with 35 line then Ok s else with_tokens threads number s (tokens_of line)
