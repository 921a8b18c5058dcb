-- The row of a command: what is said of it, once.
use Rattle.std.specs.List.{list_any}
use Rattle.std.specs.Prelude.{ℕ, ◌+◌, ◌*◌, not, Bool, true, false, if◌then◌else◌, List, [], ◌∷◌, replicate, Option, Some, None, is_some}
use Rattle.rbd_commands.specs.declared.command.Command.{Command}
use Rattle.rbd_commands.specs.declared.command.Command.TheVariants as command
use Rattle.rbd_commands.specs.declared.quiescing.Quiescing.{Quiescing}
use Rattle.rbd_commands.specs.declared.quiescing.Quiescing.TheVariants as quiescing
use Rattle.rbd_commands.specs.Quiescing.{quiescing_of}
use Rattle.rbd_kinds.specs.declared.journal.JournalEvent.{JournalEvent}
use Rattle.rbd_kinds.specs.declared.journal.JournalEvent.TheVariants as event
use Rattle.rbd_kinds.specs.declared.layout.Extent.{Extent}
use Rattle.rbd_kinds.specs.declared.operation_kind.OpKind.{OpKind}
use Rattle.rbd_kinds.specs.declared.operation_kind.OpKind.TheVariants as kind
use Rattle.rbd_kinds.specs.declared.reply.Reply.{Reply}
use Rattle.rbd_kinds.specs.declared.reply.Reply.TheVariants as reply
use Rattle.rbd_kinds.specs.declared.sharing.Sharing.{Sharing}
use Rattle.rbd_kinds.specs.declared.sharing.Sharing.TheVariants as sharing
use Rattle.rbd_kinds.specs.Sharing.{is_alone}
use Rattle.rbd_machine.specs.Path.{Answered}
use Rattle.rbd_meaning.specs.Range.{extent_at}
use Rattle.rbd_meaning.specs.Straight.{operations_of, Straight, straight_of}
use Rattle.rbd_image.specs.Told.{objects_told}
use Rattle.rbd_catalog.specs.Touched.{cut_by, most_told, restored_by}

-- ---- the row

-- what a command is answered that isn't refused
pub data Answers : Type 0 where
  -- it is never answered but by a refusal
  HasNone : Answers
  IsDone : Answers
  ShowsBytes : Answers
  ShowsNames : Answers
  ShowsHeader : Answers
  ShowsSnaps : Answers
  ShowsUse : Answers

-- What tells how many operations a command has beside those that are bounded by its extent: what
-- the header tells of a size (of a `resize`), what it tells of a snapshot (of a `snap rollback`),
-- or what the head's map tells (of an `rm`). Before it is told, nothing bounds these.
pub data Told : Type 0 where
  Nothing : Told
  OfSize : (to : ℕ) → Told
  OfSnap : (snap : List ℕ) → Told
  OfMap : Told

pub record Profile : Type 0 where
  -- the name that it looks up first
  pub image : Option (List ℕ)
  -- beside which others it goes in the line of that image, and None where it joins no line
  pub joins : Option Sharing
  -- the bytes that it is about, object by object
  pub extent : Option Extent
  -- the event that it notes in the image's journal
  pub event : Option JournalEvent
  -- what it does to a quiesce of the image
  pub quiescing : Quiescing
  -- the kinds of operation that it asks for, those of a way to a lock left out
  pub kinds : List OpKind
  -- what it is answered
  pub answers : Answers
  -- How many operations it has: so many for each piece of its extent, these once, and those by what
  -- it is told. A `read` that begins again has them again. Those of a way to a lock are not among
  -- them.
  pub each : ℕ
  pub once : ℕ
  pub told : Told

-- a look: it joins no line, notes nothing, and leaves quiesces as they are
abbrev pub look_row : Option (List ℕ) → List OpKind → Answers → (once : ℕ) → Profile
look_row image kinds answers once = record {
  image = image;
  joins = None;
  extent = None;
  event = None;
  quiescing = quiescing.Leaves;
  kinds = kinds;
  answers = answers;
  each = 0;
  once = once;
  told = Nothing;
}

-- a change of an image, alone or beside others
abbrev pub change_row : (image : List ℕ) → Sharing → Option Extent → Option JournalEvent → List OpKind → (each once : ℕ)
    → Told
    → Profile
change_row image sharing extent event kinds each once told = record {
  image = Some image;
  joins = Some sharing;
  extent = extent;
  event = event;
  quiescing = quiescing.Leaves;
  kinds = kind.DirFind ∷ kind.HeaderGet ∷ kinds;
  answers = IsDone;
  each = each;
  once = once;
  told = told;
}

-- what puts bytes, what makes bytes zero, what sets a size, and what removes an image
abbrev pub kinds_that_put : List OpKind
kinds_that_put = kind.MapSet ∷ kind.DataWrite ∷ []

abbrev pub kinds_that_zero : List OpKind
kinds_that_zero = kind.MapSet ∷ kind.DataZero ∷ kind.DataEmpty ∷ kind.DataRemove ∷ []

abbrev pub kinds_that_size : List OpKind
kinds_that_size = kind.MapResize ∷ kind.MapGet ∷ kind.HeaderSetSize ∷ kinds_that_zero

abbrev pub kinds_that_remove : List OpKind
kinds_that_remove =
    kind.WatchersGet ∷ kind.MapGet ∷ kind.DirRemove ∷ kind.HeaderRemove ∷ kind.ChildRemove ∷ kind.DataRemove
    ∷ kind.MapRemove
    ∷ kind.JournalRemove ∷ []

abbrev pub kinds_that_tell : Option (List ℕ) → List OpKind
kinds_that_tell None = []
kinds_that_tell (Some bytes) = kind.Notify ∷ []

-- The row of a straight command, which does this to a quiesce. No request serves the others yet.
abbrev pub straight_row : Quiescing → Option Straight → Profile
straight_row q None = look_row None [] HasNone 0
straight_row q (Some s) = record (look_row (Some s.name) (kind.DirFind ∷ kinds_that_tell s.tells) IsDone
    (operations_of s)) { quiescing = q }

-- ---- the rows

abbrev pub between : (at len : ℕ) → Extent
between at len = record { at = at; len = len }

abbrev pub profile : Command → Profile
-- data
profile (command.Write image at bytes) =
    change_row image sharing.Shared (Some (extent_at at bytes)) (Some (event.Write at bytes)) kinds_that_put 2 3 Nothing
profile (command.Fill image at len byte) =
    change_row image sharing.Shared (Some (between at len))
    (Some (event.Write at (replicate len byte))) kinds_that_put 2 3 Nothing
profile (command.Discard image at len) =
    change_row image sharing.Discard (Some (between at len)) (Some (event.Discard at len)) kinds_that_zero 3 3 Nothing
profile (command.Read image snap at len) =
    record (look_row (Some image) (kind.DirFind ∷ kind.HeaderGet ∷ kind.DataRead ∷ []) ShowsBytes 3) {
      extent = Some
          (between at len);
      each = 1;
    }
-- image
profile (command.Create image size shape) =
    look_row None (kind.DirAdd ∷ kind.MapResize ∷ kind.HeaderCreate ∷ []) IsDone 3
profile command.List = look_row None (kind.DirList ∷ []) ShowsNames 1
profile (command.Info image) = look_row (Some image) (kind.DirFind ∷ kind.HeaderGet ∷ []) ShowsHeader 2
profile (command.Used image) = look_row (Some image) (kind.DirFind ∷ kind.HeaderGet ∷ kind.MapGet ∷ []) ShowsUse 3
profile (command.Rename from to) = look_row None (kind.DirRename ∷ []) IsDone 1
profile (command.Resize image size) =
    change_row image sharing.Alone None (Some (event.Resize size)) kinds_that_size 0 5 (OfSize size)
profile (command.Remove image) = change_row image sharing.Alone None None kinds_that_remove 0 11 OfMap
-- snap
profile (command.SnapCreate image snap) =
    change_row image sharing.Alone None (Some (event.SnapCreate snap))
    (kind.MapGet ∷ kind.MapPut ∷ kind.HeaderSnapAdd ∷ []) 0 6 Nothing
profile (command.SnapRemove image snap) =
    change_row image sharing.Alone None (Some (event.SnapRemove snap))
    (kind.HeaderSnapRemove ∷ kind.MapRemove ∷ []) 0 5 Nothing
profile (command.SnapRollback image snap) =
    change_row image sharing.Alone None (Some (event.SnapRollback snap))
    (kind.DataRead ∷ kind.DataWriteFull ∷ kinds_that_size) 0 5 (OfSnap snap)
profile (command.SnapList image) = look_row (Some image) (kind.DirFind ∷ kind.HeaderGet ∷ []) ShowsSnaps 2
-- session
profile (command.Close image) =
    record (change_row image sharing.Alone None None [] 0 4 Nothing) {
      kinds = kind.DirFind ∷ kind.LockDrop
          ∷ kind.Notify ∷ kind.Unwatch ∷ [];
    }
profile (command.Quiesce image) =
    record (change_row image sharing.Alone None None [] 0 3 Nothing) { quiescing = quiescing.Begins }
profile c = straight_row (quiescing_of c) (straight_of c)

-- ---- what is read off it

-- it waits in the line of an image
abbrev pub joins_a_line : Profile → Bool
joins_a_line p = is_some p.joins

abbrev pub is_beside : Option Sharing → Bool
is_beside None = false
is_beside (Some sharing) = not (is_alone sharing)

-- the extent that it changes object by object, beside other requests of its image
abbrev pub extent_beside : Profile → Option Extent
extent_beside p = if is_beside p.joins then p.extent else None

-- the one that a command changes
abbrev pub changed_extent : Command → Option Extent
changed_extent c = extent_beside (profile c)

abbrev pub drops_a_lock : OpKind → Bool
drops_a_lock kind.LockDrop = true
drops_a_lock k = false

abbrev pub looks_at_a_header : OpKind → Bool
looks_at_a_header kind.HeaderGet = true
looks_at_a_header k = false

-- It changes something, seen or not: it isn't one of the looks.
abbrev pub changes_anything : OpKind → Bool
changes_anything kind.DirFind = false
changes_anything kind.DirList = false
changes_anything kind.ChildList = false
changes_anything kind.HeaderGet = false
changes_anything kind.WatchersGet = false
changes_anything kind.DataRead = false
changes_anything kind.MapGet = false
changes_anything kind.JournalRead = false
changes_anything kind.JournalSpans = false
changes_anything k = true

-- It changes what users see: which images there are and their names, links, sizes, snapshots, roles
-- and bytes. A lock, a watch, what is told to watchers, an object map and a journal is none of it.
abbrev pub changes_what_is_seen : OpKind → Bool
changes_what_is_seen kind.DirAdd = true
changes_what_is_seen kind.DirRemove = true
changes_what_is_seen kind.DirRename = true
changes_what_is_seen kind.ChildAdd = true
changes_what_is_seen kind.ChildRemove = true
changes_what_is_seen kind.HeaderCreate = true
changes_what_is_seen kind.HeaderSetSize = true
changes_what_is_seen kind.HeaderSnapAdd = true
changes_what_is_seen kind.HeaderSnapRemove = true
changes_what_is_seen kind.HeaderSnapStatus = true
changes_what_is_seen kind.HeaderRole = true
changes_what_is_seen kind.HeaderMirror = true
changes_what_is_seen kind.HeaderRemove = true
changes_what_is_seen kind.DataWrite = true
changes_what_is_seen kind.DataWriteFull = true
changes_what_is_seen kind.DataZero = true
changes_what_is_seen kind.DataEmpty = true
changes_what_is_seen kind.DataRemove = true
changes_what_is_seen k = false

-- what it is answered when it isn't refused
abbrev pub is_answer : Answers → Reply → Bool
is_answer IsDone reply.Done = true
is_answer ShowsBytes (reply.Bytes bytes) = true
is_answer ShowsNames (reply.Names names) = true
is_answer ShowsHeader (reply.Info header) = true
is_answer ShowsSnaps (reply.Snaps snaps) = true
is_answer ShowsUse (reply.Used used of) = true
is_answer a r = false

-- How many operations it has, where its extent has so many pieces at most, but for those by what it
-- is told.
abbrev pub most_operations : Profile → (pieces : ℕ) → ℕ
most_operations p pieces = p.each * pieces + p.once

abbrev pub is_nothing : Told → Bool
is_nothing Nothing = true
is_nothing t = false

-- How many more it has by what it was told: a `resize` three for each object that has bytes from
-- the new size on, a rollback those and four for each object of the snapshot, and an `rm` one for
-- each object in use.
abbrev pub more_by : Told → List Answered → ℕ
more_by Nothing steps = 0
more_by (OfSize to) steps = most_told (cut_by to) steps
more_by (OfSnap snap) steps = most_told (restored_by snap) steps
more_by OfMap steps = objects_told steps

-- none of its kinds is one of these
abbrev pub has_none_of : (OpKind → Bool) → Profile → Bool
has_none_of these p = not (list_any these p.kinds)

-- it begins a quiesce of its image
abbrev pub begins_a_quiesce : Quiescing → Bool
begins_a_quiesce quiescing.Begins = true
begins_a_quiesce q = false
