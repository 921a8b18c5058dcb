-- What is printed of a command without a reply.
use Rattle.std.specs.Prelude.{ℕ, ◌==◌, suc, zero, Bool, true, false, List, [], ◌∷◌, ◌++◌, codes, decimal, Option, Some, None, slice_get, if◌then◌else◌}
use Rattle.std.specs.Option.{option_or, unwrap_or}
use Rattle.std.specs.List.{list_any}
use Rattle.rbd_flat.specs.declared.entry.Cause.{Cause}
use Rattle.rbd_flat.specs.declared.entry.Cause.TheVariants as cause
use Rattle.rbd_flat.specs.declared.entry.Entry.{Entry}
use Rattle.rbd_flat.specs.declared.entry.Entry.TheVariants.{Start, Effect, Look, Fence, Reply, Lost}
use Rattle.rbd_kinds.specs.declared.answer.Answer.{Answer}
use Rattle.rbd_kinds.specs.declared.answer.Answer.TheVariants.{Held}
use Rattle.rbd_kinds.specs.declared.header_op.HeaderOp.{HeaderOp}
use Rattle.rbd_kinds.specs.declared.header_op.HeaderOp.TheVariants.{LockTake}
use Rattle.rbd_kinds.specs.declared.id.Instance.{Instance}
use Rattle.rbd_kinds.specs.declared.id.SiteId.{SiteId}
use Rattle.rbd_kinds.specs.declared.id.SiteId.TheVariants.{A, B}
use Rattle.rbd_kinds.specs.declared.operation.Op.{Op}
use Rattle.rbd_kinds.specs.declared.operation.Op.TheVariants.{Header}
use Rattle.rbd_script.specs.declared.script.Declared.{Declared}
use Rattle.rbd_script.specs.declared.script.Line.{Line}
use Rattle.rbd_script.specs.declared.script.Said.{Said}
use Rattle.rbd_script.specs.declared.script.Said.TheVariants.{Command}
use Rattle.rbd_site.specs.declared.done.Done.{Done}
use Rattle.rbd_site.specs.declared.done.DoneOp.{DoneOp}
use Rattle.rbd_site.specs.declared.done.DoneOp.TheVariants as done
use Rattle.rbd_text.specs.Names.{session_name, instance_text}
use Rattle.rbd_text.specs.declared.progress.CommandProgress.{CommandProgress}

-- what an entry tells of the command of a line
abbrev pub starts : (line : ℕ) → Entry → Bool
starts line (Start other instance) = other == line
starts line entry = false

abbrev pub answers : (line : ℕ) → Entry → Bool
answers line (Reply other reply) = other == line
answers line entry = false

abbrev pub tells_of_loss : (line : ℕ) → Entry → Bool
tells_of_loss line (Lost other) = other == line
tells_of_loss line entry = false

-- for which line an operation was done
abbrev pub line_of_cause : Cause → Option ℕ
line_of_cause (cause.Line line) = Some line
line_of_cause (cause.Late instance) = None
line_of_cause (cause.Replay line seq) = Some line
line_of_cause (cause.House instance) = None

abbrev pub log_of : (a b : List Done) → SiteId → List Done
log_of a b A = a
log_of a b B = b

-- an operation of a log by its number, from 1
abbrev pub logged : List Done → ℕ → Option Done
logged log zero = None
logged log (suc before) = slice_get log before

abbrev pub takes_lock : HeaderOp → Bool
takes_lock LockTake = true
takes_lock op = false

abbrev pub is_header_lock_take : Op → Bool
is_header_lock_take (Header image op) = takes_lock op
is_header_lock_take op = false

abbrev pub is_lock_take : DoneOp → Bool
is_lock_take (done.Op op) = is_header_lock_take op
is_lock_take op = false

-- who has the lock by an answer
abbrev pub holder_told : Answer → Option Instance
holder_told (Held owner) = Some owner
holder_told answer = None

-- whom a lock-take found to have the lock, if anybody, and nothing of another operation
abbrev pub found_by : Option Done → Option (Option Instance)
found_by None = None
found_by (Some done) = if is_lock_take done.op then Some (holder_told done.answer) else None

abbrev pub where_for : (line : ℕ) → Option ℕ → Option (Option Instance) → Option (Option Instance)
where_for line None found = None
where_for line (Some other) found = if other == line then found else None

abbrev pub found_for : (a b : List Done) → (line : ℕ) → Cause → SiteId → (number : ℕ) → Option (Option Instance)
found_for a b line cause site number = where_for line (line_of_cause cause) (found_by (logged (log_of a b site) number))

-- whom the lock-take of an entry found, where it was done for the line, also in a replay
abbrev pub found_in : (a b : List Done) → (line : ℕ) → Entry → Option (Option Instance)
found_in a b line (Effect cause site number effect) = found_for a b line cause site number
found_in a b line (Look cause site number) = found_for a b line cause site number
found_in a b line (Fence cause site number instance) = found_for a b line cause site number
found_in a b line entry = None

-- the last that f gives
abbrev pub last_of : {X Y : Type 0} → (X → Option Y) → List X → Option Y
last_of f [] = None
last_of f (x ∷ xs) = option_or (last_of f xs) (f x)

-- what a history and the logs tell of the command of a line: the holder is the one that its last
-- lock-take found
abbrev pub progress_of : (a b : List Done) → List Entry → (line : ℕ) → CommandProgress
progress_of a b history line = record {
  started = list_any (starts line) history;
  answered = list_any (answers line) history;
  lost = list_any (tells_of_loss line) history;
  holder = unwrap_or (last_of (found_in a b line) history) None;
}

abbrev pub waiting_text : List Declared → Option Instance → List ℕ
waiting_text sessions None = codes "unfinished"
waiting_text sessions (Some owner) = codes "unfinished waiting " ++ instance_text sessions owner

abbrev pub progress_text : List Declared → CommandProgress → List ℕ
progress_text sessions progress = if progress.lost then codes "lost"
    else (if progress.started then waiting_text sessions progress.holder else codes "unsent")

-- `6 c2 unfinished waiting c1.0`
abbrev pub progress_line : List Declared → (line session : ℕ) → CommandProgress → List ℕ
progress_line sessions line session progress =
    if progress.answered then [] else
    (decimal line ++ codes " " ++ session_name sessions session ++ codes " " ++ progress_text sessions progress
    ++ 10 ∷ [])

-- the line of a command without a reply
abbrev pub said_line : List Declared → (line : ℕ) → Said → CommandProgress → List ℕ
said_line sessions line (Command session beside command) progress = progress_line sessions line session progress
said_line sessions line said progress = []

abbrev pub unanswered_line : List Declared → (a b : List Done) → List Entry → Line → List ℕ
unanswered_line sessions a b history line =
    said_line sessions line.number line.said (progress_of a b history line.number)
