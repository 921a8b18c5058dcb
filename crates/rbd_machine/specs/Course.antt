-- The course of a request: the line that it is in and how far it has come there, and the objects at
-- which it takes its turns.
use Rattle.std.specs.Prelude.{ℕ, ◌&&◌, Bool, true, false, if◌then◌else◌, List, [], ◌∷◌, ◌++◌, map, Option, Some, None}
use Rattle.rbd_machine.specs.declared.stage.Stage.{Stage}
use Rattle.rbd_machine.specs.declared.stage.Stage.TheVariants as stage
use Rattle.rbd_kinds.specs.declared.answer.Answer.{Answer}
use Rattle.rbd_kinds.specs.declared.answer.Answer.TheVariants as answer
use Rattle.rbd_kinds.specs.declared.header.HeaderView.{HeaderView}
use Rattle.rbd_kinds.specs.declared.header_op.HeaderOp.TheVariants as header
use Rattle.rbd_kinds.specs.declared.id.SiteId.{SiteId}
use Rattle.rbd_kinds.specs.declared.layout.Extent.{Extent}
use Rattle.rbd_kinds.specs.declared.operation.Op.{Op}
use Rattle.rbd_kinds.specs.declared.operation.Op.TheVariants as op
use Rattle.rbd_kinds.specs.Extents.{fits}
use Rattle.rbd_kinds.specs.Sharing.{is_alone}
use Rattle.rbd_kinds.specs.declared.sharing.Sharing.{Sharing}
use Rattle.rbd_layout.specs.Pieces.{pieces_of}
use Rattle.rbd_layout.specs.declared.types.Piece.{Piece}
use Rattle.rbd_machine.specs.Knowledge.{is_at}
use Rattle.rbd_machine.specs.Wait.{Wait}
use Rattle.rbd_machine.specs.Wait as wait

-- a place in the line of an image's requests
pub record PlaceInLine : Type 0 where
  pub site : SiteId
  pub image : ℕ
  pub sharing : Sharing
  pub stage : Stage

pub record Course : Type 0 where
  -- the line that the request is in
  pub place : Option PlaceInLine
  -- the object whose piece it does, or awaits its turn for
  pub turn : Option ℕ
  -- the objects whose tickets it takes at the end of its note, ascending
  pub due : List ℕ
  -- the objects whose tickets it has, in the order of its pieces, the one of its turn first
  pub objects : List ℕ

-- where each request begins
abbrev pub beginning : Course
beginning = record { place = None; turn = None; due = []; objects = [] }

-- ---- its look under the lock

-- the objects of an extent by a header. An extent that isn't within the size has none, since its
-- request is refused.
abbrev pub objects_of : List Piece → List ℕ
objects_of pieces = map (λ (p : Piece). p.object) pieces

abbrev pub objects_within : HeaderView → Extent → List ℕ
objects_within h e = if fits e h.size then objects_of (pieces_of h.layout e) else []

-- a request that changes no extent takes no turns
abbrev pub objects_asked : HeaderView → Option Extent → List ℕ
objects_asked h None = []
objects_asked h (Some e) = objects_within h e

abbrev pub is_waiting : Stage → Bool
is_waiting stage.Waiting = true
is_waiting _ = false

abbrev pub has_just_joined : Stage → Bool
has_just_joined stage.Joined = true
has_just_joined _ = false

-- whether a request has just joined its line, and waits for nothing there yet
abbrev pub is_newcomer_at : Option PlaceInLine → Bool
is_newcomer_at None = false
is_newcomer_at (Some p) = has_just_joined p.stage

-- whether the request's next look at the image's header is its look under the lock
abbrev pub looks_under_lock_at : SiteId → (image : ℕ) → Option PlaceInLine → Bool
looks_under_lock_at site image None = false
looks_under_lock_at site image (Some p) = is_at site image p.site p.image && is_waiting p.stage

abbrev pub past : Option PlaceInLine → Option PlaceInLine
past None = None
past (Some p) = Some (record p { stage = stage.Past })

-- a request that is alone needs no turns
abbrev pub due_of : Option PlaceInLine → (objects : List ℕ) → List ℕ
due_of None objects = []
due_of (Some p) objects = if is_alone p.sharing then [] else objects

-- ---- the moves of a request

-- What a request does in its line, to whatever keeps its place there: its own course, or the lines
-- that it shares with others.
pub record Moves (S : Type 0) : Type 0 where
  pub place : S → Option PlaceInLine
  -- it joins the line of an image, behind all others
  pub join : SiteId → (image : ℕ) → Sharing → S → S
  -- it waits for its look under the lock
  pub hold : S → S
  -- its look under the lock was told this header
  pub look : Option Extent → HeaderView → S → S
  -- it gets its tickets, at the end of its note
  pub note : S → S
  -- the piece of its turn has ended, where it had one; its next turn is at this object, if any
  pub turn : Option ℕ → S → S
  -- it leaves its line
  pub leave : S → S

-- once it has what it waited for: a piece ends where it next awaits a turn, or that its event counts
-- as applied
abbrev pub moved_by_wait : {S : Type 0} → Moves S → S → Wait → S
moved_by_wait m s (wait.Join site image sharing) = m.join site image sharing s
moved_by_wait m s (wait.Hold site image) = m.hold s
moved_by_wait m s (wait.Turn object) = m.turn (Some object) s
moved_by_wait m s (wait.Applied site image) = m.turn None s
moved_by_wait m s (wait.Leave site image) = m.leave s

-- after an operation and its answer, where it changes an extent or none
abbrev pub moved_by_answer : {S : Type 0} → Moves S → Option Extent → S → SiteId → Op → Answer → S
moved_by_answer m e s site (op.Header image header.Get) (answer.Header h) =
    if looks_under_lock_at site image (m.place s) then m.look e h s else s
moved_by_answer m e s site o a = s

-- ---- what becomes of a course

abbrev pub course_past_look : Option Extent → HeaderView → Course → Course
course_past_look e h c =
    record { place = past c.place; turn = c.turn; due = due_of c.place (objects_asked h e); objects = c.objects }

abbrev pub held_stage : Stage → Stage
held_stage stage.Past = stage.Past
held_stage _ = stage.Waiting

-- the place of a request that waits for its look under the lock; one that is past that look stays
-- past it
abbrev pub held : Option PlaceInLine → Option PlaceInLine
held None = None
held (Some p) = Some (record p { stage = held_stage p.stage })

-- the objects that are left once the piece of a turn has ended
abbrev pub objects_behind : (turn : Option ℕ) → List ℕ → List ℕ
objects_behind (Some o) (first ∷ objects) = objects
objects_behind turn objects = objects

-- where it has just joined a line
abbrev pub newcomer : SiteId → (image : ℕ) → Sharing → PlaceInLine
newcomer site image sharing = record { site = site; image = image; sharing = sharing; stage = stage.Joined }

-- at the end of its note the request gets its tickets
abbrev pub noted : Course → Course
noted c = record { place = c.place; turn = c.turn; due = []; objects = c.objects ++ c.due }

abbrev pub on_course : Moves Course
on_course = record {
  place = λ (c : Course). c.place;
  join = λ site image sharing (c : Course). record c { place = Some (newcomer site image sharing) };
  hold = λ (c : Course). record c { place = held c.place };
  look = course_past_look;
  note = noted;
  turn = λ turn (c : Course). record c { turn = turn; objects = objects_behind c.turn c.objects };
  leave = λ (c : Course). beginning;
}

-- the course once the request has what it waited for
abbrev pub waited : Course → Wait → Course
waited c w = moved_by_wait on_course c w

-- the course after an operation and its answer, of a request that changes an extent or none
abbrev pub answered : Option Extent → Course → SiteId → Op → Answer → Course
answered e c site o a = moved_by_answer on_course e c site o a
