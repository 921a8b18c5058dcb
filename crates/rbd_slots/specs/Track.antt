-- Where a request stands in its session: the line that it is in, its turn, and what becomes of them
-- on its way.
use Rattle.std.specs.Prelude.{ℕ, if◌then◌else◌, List, [], ◌∷◌, ◌++◌, Option, Some, None}
use Rattle.rbd_machine.specs.Course.{Course, Moves, PlaceInLine, due_of, moved_by_answer, moved_by_wait, objects_asked}
use Rattle.rbd_kinds.specs.declared.answer.Answer.{Answer}
use Rattle.rbd_kinds.specs.declared.header.HeaderView.{HeaderView}
use Rattle.rbd_kinds.specs.declared.id.SiteId.{SiteId}
use Rattle.rbd_kinds.specs.declared.layout.Extent.{Extent}
use Rattle.rbd_kinds.specs.declared.operation.Op.{Op}
use Rattle.rbd_kinds.specs.declared.machine.Want.{Want}
use Rattle.rbd_kinds.specs.declared.machine.Want.TheVariants as want
use Rattle.rbd_queue.specs.Line.{Member, member_of, objects_in, changed_member, without, new_member, held, passed, next_piece}
use Rattle.rbd_machine.specs.Knowledge.{is_at}
use Rattle.rbd_machine.specs.Plan.{Plan, Await, Note}
use Rattle.rbd_machine.specs.Wait.{Wait}
use Rattle.rbd_machine.specs.Wait as wait
use Rattle.rbd_kinds.specs.declared.image_at.ImageAt.{ImageAt}

-- the members of each image's line, earliest first
abbrev pub Lines : Type 0
Lines = SiteId → (image : ℕ) → List Member

pub record Track : Type 0 where
  -- the image whose line it is in
  pub place : Option ImageAt
  -- the object whose piece it does, or awaits its turn for
  pub turn : Option ℕ
  -- the objects whose tickets it takes at the end of its note
  pub due : List ℕ
  pub lines : Lines

-- ---- the lines of images

-- the line of one image changed, and of none where it is in no line
abbrev pub line_changed_at : Option ImageAt → (List Member → List Member) → Lines → Lines
line_changed_at None change lines = lines
line_changed_at (Some p) change lines = λ site image. if is_at p.site p.image site image then change (lines site image)
    else lines site image

abbrev pub place_of_image : SiteId → (image : ℕ) → ImageAt
place_of_image site image = record { site = site; image = image }

-- the line of an image, and of none
abbrev pub line_in : Option ImageAt → Lines → List Member
line_in None lines = []
line_in (Some p) lines = lines p.site p.image

-- ---- its place and its course

abbrev pub place_in : Option ImageAt → Option Member → Option PlaceInLine
place_in (Some p) (Some m) = Some
    (record { site = p.site; image = p.image; sharing = m.sharing; stage = m.stage })
place_in _ _ = None

-- the request's place in the line that it is in
abbrev pub place_in_line : (slot : ℕ) → Track → Option PlaceInLine
place_in_line slot t = place_in t.place (member_of slot (line_in t.place t.lines))

-- how the request goes through its line, without the other members
abbrev pub course_in : (turn : Option ℕ) → (due : List ℕ) → Option ImageAt → Option Member → Course
course_in turn due p m = record { place = place_in p m; turn = turn; due = due; objects = objects_in m }

abbrev pub course_of : (slot : ℕ) → Track → Course
course_of slot t = course_in t.turn t.due t.place (member_of slot (line_in t.place t.lines))

-- ---- what a member comes to

abbrev pub given_tickets : (objects : List ℕ) → Member → Member
given_tickets objects m = record m { objects = m.objects ++ objects }

-- behind a piece its first object goes
abbrev pub done_with : (turn : Option ℕ) → Member → Member
done_with None m = m
done_with (Some object) m = next_piece m

-- ---- its way

-- at the end of its note it gets its tickets
abbrev pub track_noted : (slot : ℕ) → Track → Track
track_noted slot t = record t {
  due = [];
  lines = line_changed_at t.place (changed_member slot (given_tickets t.due)) t.lines;
}

-- The request's look under the lock was answered: so it is past that look, and due to take its
-- tickets if it goes beside others.
abbrev pub track_looked : (slot : ℕ) → Option Extent → HeaderView → Track → Track
track_looked slot e h t = record t {
  due = due_of (place_in_line slot t) (objects_asked h e);
  lines = line_changed_at t.place (changed_member slot passed) t.lines;
}

-- a request that has ended is in no line
abbrev pub ended_by : (slot : ℕ) → Track → Track
ended_by slot t = record { place = None; turn = None; due = []; lines = line_changed_at t.place (without slot) t.lines }

abbrev pub on_track : (slot : ℕ) → Moves Track
on_track slot = record {
  place = place_in_line slot;
  join = λ site image sharing (t : Track). record t {
    place = Some (place_of_image site image);
    lines = line_changed_at (Some (place_of_image site image))
        (λ members. members ++ new_member slot sharing ∷ []) t.lines;
  };
  hold = λ (t : Track). record t { lines = line_changed_at t.place (changed_member slot held) t.lines };
  look = track_looked slot;
  note = track_noted slot;
  turn = λ turn (t : Track). record t {
    turn = turn;
    lines = line_changed_at t.place (changed_member slot (done_with t.turn)) t.lines;
  };
  leave = ended_by slot;
}

-- the track once the request has what it waited for
abbrev pub waited_by : (slot : ℕ) → Track → Wait → Track
waited_by slot t w = moved_by_wait (on_track slot) t w

-- the track after an operation and its answer
abbrev pub answered_by : (slot : ℕ) → Option Extent → Track → SiteId → Op → Answer → Track
answered_by slot e t site o a = moved_by_answer (on_track slot) e t site o a

-- the track once the request has what it wanted beside an operation
abbrev pub passed_by : (slot : ℕ) → Track → Want → Track
passed_by slot t (want.Op site kind) = t
passed_by slot t (want.Join site image sharing) = waited_by slot t (wait.Join site image sharing)
passed_by slot t (want.Hold site image) = waited_by slot t (wait.Hold site image)
passed_by slot t (want.Note site image) = track_noted slot t
passed_by slot t (want.Turn object) = waited_by slot t (wait.Turn object)
passed_by slot t (want.Applied site image) = waited_by slot t (wait.Applied site image)
passed_by slot t (want.Leave site image) = waited_by slot t (wait.Leave site image)

-- the track up to the request's next operation, past all that it waits for before
abbrev pub run : (slot : ℕ) → Plan → Track → Track
run slot (Await w next) t = run slot next (waited_by slot t w)
run slot (Note site image event next) t = run slot next (track_noted slot t)
run slot plan t = t
