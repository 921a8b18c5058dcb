-- What is told of a transcript in one line.
use Rattle.std.specs.Prelude.{◌≡◌, ℕ, ◌&&◌, Bool, true, false, not, List, [], ◌∷◌, ◌++◌, length, codes, decimal, count_by, sum_by}
use Rattle.std.specs.List.{list_any}
use Rattle.rbd_flat.specs.declared.entry.Entry.{Entry}
use Rattle.rbd_flat.specs.declared.entry.Entry.TheVariants as entry
use Rattle.rbd_kinds.specs.declared.reply.Reply.{Reply}
use Rattle.rbd_kinds.specs.declared.reply.Reply.TheVariants as reply
use Rattle.rbd_script.specs.declared.script.Line.{Line}
use Rattle.rbd_script.specs.declared.script.Said.{Said}
use Rattle.rbd_script.specs.declared.script.Said.TheVariants as said
use Rattle.rbd_script.specs.declared.script.Script.{Script}
use Rattle.rbd_line_table.specs.Known.{is_known}
use Rattle.rbd_line_table.specs.declared.line_map.LineMap.{LineMap}
use Rattle.rbd_text.specs.Unanswered.{answers}

-- ---- of the script

abbrev pub is_command : Said → Bool
is_command (said.Command session beside command) = true
is_command s = false

-- how many commands it has
abbrev pub command_count : List Line → ℕ
command_count lines = count_by (λ (line : Line). is_command line.said) lines

-- ---- of the history

abbrev pub is_refusal : Reply → Bool
is_refusal (reply.Refused refusal) = true
is_refusal r = false

-- a reply that is a refusal, and one that isn't
abbrev pub refuses : Entry → Bool
refuses (entry.Reply line r) = is_refusal r
refuses e = false

abbrev pub is_granted : Entry → Bool
is_granted (entry.Reply line r) = not (is_refusal r)
is_granted e = false

-- how many bytes a read shows
abbrev pub bytes_of_reply : Reply → ℕ
bytes_of_reply (reply.Bytes bytes) = length bytes
bytes_of_reply r = 0

abbrev pub bytes_shown_by : Entry → ℕ
bytes_shown_by (entry.Reply line r) = bytes_of_reply r
bytes_shown_by e = 0

-- ---- of both

-- a command that has no reply
abbrev pub is_unfinished : List Entry → Line → Bool
is_unfinished history line = is_command line.said && not (list_any (answers line.number) history)

-- `commands 5 ok 5 refused 0 unfinished 0 read 64`
abbrev pub summary_text : Script → List Entry → List ℕ
summary_text script history =
    codes "commands " ++ decimal (command_count script.lines)
    ++ codes " ok " ++ decimal (count_by is_granted history)
    ++ codes " refused " ++ decimal (count_by refuses history)
    ++ codes " unfinished " ++ decimal (count_by (is_unfinished history) script.lines)
    ++ codes " read " ++ decimal (sum_by bytes_shown_by history)
    ++ 10 ∷ []

-- ---- what is kept while the history is gone over

-- the lines that it has replies for
pub record HasRepliesFor {T : Type 0} (history : List Entry) (lines : LineMap T) : Type 0 where
  pub each : (line : ℕ) → is_known lines line ≡ list_any (answers line) history

-- a command that isn't known to have one
abbrev pub is_open : {T : Type 0} → LineMap T → Line → Bool
is_open lines line = is_command line.said && not (is_known lines line.number)
