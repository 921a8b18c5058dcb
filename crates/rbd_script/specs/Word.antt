-- Words that stand in the forms.
use Rattle.std.specs.Prelude.{ℕ, List, [], ◌∷◌, codes, Option, Result, Ok, Err, if◌then◌else◌}
use Rattle.std.specs.List.{find}
use Rattle.rbd_kinds.specs.declared.id.SiteId.{SiteId}
use Rattle.rbd_kinds.specs.declared.id.SiteId.TheVariants.{A, B}
use Rattle.rbd_kinds.specs.declared.operation_kind.OpKind.{OpKind}
use Rattle.rbd_kinds.specs.declared.operation_kind.OpKind.TheVariants as kind
use Rattle.rbd_kinds.specs.Operation.{op_word}
use Rattle.rbd_script.specs.declared.fault.LineCause.{LineCause}
use Rattle.rbd_script.specs.declared.fault.LineCause.TheVariants.{UnknownWord}
use Rattle.rbd_script.specs.declared.snap.SnapVerb.{SnapVerb}
use Rattle.rbd_script.specs.declared.snap.SnapVerb.TheVariants as snap
use Rattle.rbd_script.specs.declared.snap.OfSnap.TheVariants as of_snap
use Rattle.rbd_script.specs.declared.mirror.OfMirrored.TheVariants as of_mirror
use Rattle.rbd_script.specs.declared.mirror.MirrorVerb.{MirrorVerb}
use Rattle.rbd_script.specs.declared.mirror.MirrorVerb.TheVariants as mirror
use Rattle.rbd_script.specs.declared.schedule.ScheduleVerb.{ScheduleVerb}
use Rattle.rbd_script.specs.declared.schedule.ScheduleVerb.TheVariants as schedule
use Rattle.rbd_script.specs.Session.{known}
use Rattle.rbd_script.specs.Token.{is}

-- behind `snap`
abbrev pub snap_word : SnapVerb → List ℕ
snap_word (snap.Of of_snap.Create) = codes "create"
snap_word (snap.Of of_snap.Remove) = codes "rm"
snap_word (snap.Of of_snap.Protect) = codes "protect"
snap_word (snap.Of of_snap.Unprotect) = codes "unprotect"
snap_word (snap.Of of_snap.Rollback) = codes "rollback"
snap_word snap.List = codes "ls"

-- behind `mirror`
abbrev pub mirror_word : MirrorVerb → List ℕ
mirror_word (mirror.Of of_mirror.Enable) = codes "enable"
mirror_word (mirror.Of of_mirror.Demote) = codes "demote"
mirror_word (mirror.Of of_mirror.Resync) = codes "resync"
mirror_word (mirror.Of of_mirror.Status) = codes "status"
mirror_word (mirror.Of of_mirror.Follow) = codes "follow"
mirror_word mirror.Promote = codes "promote"

-- lines of a schedule
abbrev pub schedule_word : ScheduleVerb → List ℕ
schedule_word schedule.Poll = codes "@poll"
schedule_word schedule.Until = codes "@until"
schedule_word schedule.Settle = codes "@settle"
schedule_word schedule.Deliver = codes "@deliver"
schedule_word schedule.Lose = codes "@lose"
schedule_word schedule.Expire = codes "@expire"
schedule_word schedule.Stop = codes "@stop"
schedule_word schedule.Restart = codes "@restart"
schedule_word schedule.Late = codes "@late"
schedule_word schedule.Trim = codes "@trim"

-- one of some things, by its word
abbrev pub with_word : {X : Type 0} → (X → List ℕ) → List X → List ℕ → Option X
with_word word all token = find (λ x. is (word x) token) all

abbrev pub by_word : {X : Type 0} → (X → List ℕ) → List X → List ℕ → Result X LineCause
by_word word all token = known (with_word word all token)

abbrev pub all_snap_verbs : List SnapVerb
all_snap_verbs =
    snap.Of of_snap.Create
    ∷ snap.Of of_snap.Remove
    ∷ snap.Of of_snap.Protect
    ∷ snap.Of of_snap.Unprotect
    ∷ snap.Of of_snap.Rollback
    ∷ snap.List
    ∷ []

unfoldable pub snap_verb_of : List ℕ → Result SnapVerb LineCause
snap_verb_of token = by_word snap_word all_snap_verbs token

abbrev pub all_mirror_verbs : List MirrorVerb
all_mirror_verbs =
    mirror.Of of_mirror.Enable
    ∷ mirror.Of of_mirror.Demote
    ∷ mirror.Of of_mirror.Resync
    ∷ mirror.Of of_mirror.Status
    ∷ mirror.Of of_mirror.Follow
    ∷ mirror.Promote
    ∷ []

unfoldable pub mirror_verb_of : List ℕ → Result MirrorVerb LineCause
mirror_verb_of token = by_word mirror_word all_mirror_verbs token

abbrev pub all_schedule_verbs : List ScheduleVerb
all_schedule_verbs =
    schedule.Poll
    ∷ schedule.Until
    ∷ schedule.Settle
    ∷ schedule.Deliver
    ∷ schedule.Lose
    ∷ schedule.Expire
    ∷ schedule.Stop
    ∷ schedule.Restart
    ∷ schedule.Late
    ∷ schedule.Trim
    ∷ []

unfoldable pub schedule_verb_of : List ℕ → Result ScheduleVerb LineCause
schedule_verb_of token = by_word schedule_word all_schedule_verbs token

-- all kinds of operations
abbrev pub all_kinds : List OpKind
all_kinds =
    kind.DirFind
    ∷ kind.DirAdd
    ∷ kind.DirRemove
    ∷ kind.DirRename
    ∷ kind.DirList
    ∷ kind.ChildAdd
    ∷ kind.ChildRemove
    ∷ kind.ChildList
    ∷ kind.BlockAdd
    ∷ kind.HeaderCreate
    ∷ kind.HeaderGet
    ∷ kind.HeaderSetSize
    ∷ kind.HeaderSnapAdd
    ∷ kind.HeaderSnapRemove
    ∷ kind.HeaderSnapStatus
    ∷ kind.HeaderDetach
    ∷ kind.HeaderRole
    ∷ kind.HeaderMirror
    ∷ kind.HeaderSynced
    ∷ kind.HeaderRemove
    ∷ kind.LockTake
    ∷ kind.LockDrop
    ∷ kind.LockBreak
    ∷ kind.Watch
    ∷ kind.Unwatch
    ∷ kind.WatchersGet
    ∷ kind.Notify
    ∷ kind.DataRead
    ∷ kind.DataWrite
    ∷ kind.DataWriteFull
    ∷ kind.DataZero
    ∷ kind.DataEmpty
    ∷ kind.DataRemove
    ∷ kind.DataCopyUp
    ∷ kind.MapResize
    ∷ kind.MapGet
    ∷ kind.MapPut
    ∷ kind.MapSet
    ∷ kind.MapRemove
    ∷ kind.JournalCreate
    ∷ kind.JournalTag
    ∷ kind.JournalAppend
    ∷ kind.JournalRead
    ∷ kind.JournalSpans
    ∷ kind.JournalRegister
    ∷ kind.JournalCommit
    ∷ kind.JournalRemove
    ∷ []

-- the kind of an operation
unfoldable pub kind_of_token : List ℕ → Result OpKind LineCause
kind_of_token token = by_word op_word all_kinds token

-- `a` or `b`
unfoldable pub site_of_token : List ℕ → Result SiteId LineCause
site_of_token token = if is (codes "a") token then Ok A else if is (codes "b") token then Ok B else Err UnknownWord
