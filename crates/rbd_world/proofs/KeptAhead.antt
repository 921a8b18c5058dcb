-- Whatever a request does in its line, of two others the one ahead stays ahead.
use Rattle.std.proofs.Common.{◌≡◌, ◌≢◌, ℕ, cond, Bool, true, false, List, [], ◌∷◌, ◌++◌, Option, Some, None, sym, ap, ◌∙◌}
use Rattle.std.specs.Option.{is_some}
use Rattle.rbd_kinds.specs.declared.answer.Answer.{Answer}
use Rattle.rbd_kinds.specs.declared.answer.Answer.TheVariants as answer
use Rattle.rbd_kinds.specs.declared.header_op.HeaderOp.TheVariants as header
use Rattle.rbd_kinds.specs.declared.id.SiteId.{SiteId}
use Rattle.rbd_kinds.specs.declared.layout.Extent.{Extent}
use Rattle.rbd_kinds.specs.declared.operation.Op.{Op}
use Rattle.rbd_kinds.specs.declared.operation.Op.TheVariants as op
use Rattle.rbd_machine.specs.Course.{looks_under_lock_at}
use Rattle.rbd_queue.specs.Line.{Member, member_of, is_member, ahead, changed_member, held, new_member, passed, without}
use Rattle.rbd_queue.specs.Steady.{IsSteady}
use Rattle.rbd_queue.proofs.Keeping.{is_found}
use Rattle.rbd_queue.proofs.Passing.{held_is_steady, passed_is_steady}
use Rattle.rbd_machine.specs.Knowledge.{is_at}
use Rattle.rbd_machine.specs.Plan.{Plan, Ask, Await, Note, Return, Goto}
use Rattle.rbd_machine.specs.Wait.{Wait}
use Rattle.rbd_machine.specs.Wait as wait
use Rattle.rbd_kinds.specs.declared.image_at.ImageAt.{ImageAt}
use Rattle.rbd_slots.specs.OnTrack.{LeavesOthers}
use Rattle.rbd_slots.specs.Track.{Track, Lines, answered_by, line_changed_at, course_of, done_with, ended_by, given_tickets, place_of_image, track_looked, track_noted, run, waited_by}
use Rattle.rbd_slots.proofs.Others.{answered_leaves, noted_leaves, run_leaves, waited_leaves}
use Rattle.rbd_slots.proofs.Track.{done_steady, given_steady}
use Rattle.rbd_world.proofs.Ahead.{ahead_changed, ahead_left, ahead_pushed}

-- a slot is as much a member as it was
pub member_left_alone : (y : ℕ) (old new : List Member) → member_of y new ≡ member_of y old → is_member y new ≡ is_member y old
member_left_alone y old new same = sym (is_found y new) ∙ ap is_some same ∙ is_found y old

-- of two others the one ahead stays ahead
abbrev pub KeepsAhead : (slot : ℕ) → (old new : Lines) → Type 0
KeepsAhead slot old new = (x y : ℕ) → x ≢ slot → y ≢ slot → (s : SiteId) (i : ℕ) → is_member y (old s i) ≡ true → is_member x (ahead y (old s i)) ≡ true → is_member x (ahead y (new s i)) ≡ true

then : (slot : ℕ) (a b c : Lines) → LeavesOthers slot a b → KeepsAhead slot a b → KeepsAhead slot b c → KeepsAhead slot a c
then slot a b c leaves one two x y x_other y_other s i member is =
    two x y x_other y_other s i (member_left_alone y (a s i) (b s i) (leaves y y_other s i) ∙ member) (one x y x_other y_other s i member is)

same_keeps : (slot : ℕ) (lines : Lines) → KeepsAhead slot lines lines
same_keeps slot lines x y x_other y_other s i member is = is

at_place : (slot : ℕ) (place : Option ImageAt) (change : List Member → List Member) (lines : Lines)
    → ((x y : ℕ) → x ≢ slot → y ≢ slot → (ms : List Member) → is_member y ms ≡ true → is_member x (ahead y ms) ≡ true → is_member x (ahead y (change ms)) ≡ true)
    → KeepsAhead slot lines (line_changed_at place change lines)
at_place slot None change lines keeps x y x_other y_other s i member is = is
at_place slot (Some p) change lines keeps x y x_other y_other s i member is = go (is_at p.site p.image s i)
  where
    go : (b : Bool) → is_member x (ahead y (cond b (change (lines s i)) (lines s i))) ≡ true
    go true = keeps x y x_other y_other (lines s i) member is
    go false = is

own_keeps : (slot : ℕ) (place : Option ImageAt) (f : Member → Member) → IsSteady f → (lines : Lines) → KeepsAhead slot lines (line_changed_at place (changed_member slot f) lines)
own_keeps slot place f steady lines = at_place slot place (changed_member slot f) lines (λ x y x_other y_other ms member is. ahead_changed slot f steady x y ms ∙ is)

waited_keeps : (slot : ℕ) (t : Track) (w : Wait) → KeepsAhead slot t.lines (waited_by slot t w).lines
waited_keeps slot t (wait.Join site image sharing) =
    at_place slot (Some (place_of_image site image)) (λ members. members ++ new_member slot sharing ∷ []) t.lines
    (λ x y x_other y_other ms member is. ap (is_member x) (ahead_pushed y ms (new_member slot sharing) member) ∙ is)
waited_keeps slot t (wait.Hold site image) = own_keeps slot t.place held held_is_steady t.lines
waited_keeps slot t (wait.Turn object) = own_keeps slot t.place (done_with t.turn) (done_steady t.turn) t.lines
waited_keeps slot t (wait.Applied site image) = own_keeps slot t.place (done_with t.turn) (done_steady t.turn) t.lines
waited_keeps slot t (wait.Leave site image) = at_place slot t.place (without slot) t.lines (λ x y x_other y_other ms member is. ahead_left slot x y ms x_other y_other is)

answered_keeps : (slot : ℕ) (e : Option Extent) (t : Track) (s : SiteId) (o : Op) (a : Answer) → KeepsAhead slot t.lines (answered_by slot e t s o a).lines
answered_keeps slot e t s (op.Header image header.Get) (answer.Header h) = go (looks_under_lock_at s image (course_of slot t).place)
  where
    go : (b : Bool) → KeepsAhead slot t.lines (cond b (track_looked slot e h t) t).lines
    go true = own_keeps slot t.place passed passed_is_steady t.lines
    go false = same_keeps slot t.lines
answered_keeps slot e t s o a = same_keeps slot t.lines

run_keeps : (slot : ℕ) (plan : Plan) (t : Track) → KeepsAhead slot t.lines (run slot plan t).lines
run_keeps slot (Ask s why o next) t = same_keeps slot t.lines
run_keeps slot (Return reply) t = same_keeps slot t.lines
run_keeps slot (Goto label) t = same_keeps slot t.lines
run_keeps slot (Await w next) t =
    then slot t.lines (waited_by slot t w).lines (run slot next (waited_by slot t w)).lines (waited_leaves slot t w) (waited_keeps slot t w) (run_keeps slot next (waited_by slot t w))
run_keeps slot (Note s image event next) t =
    then slot t.lines (track_noted slot t).lines (run slot next (track_noted slot t)).lines (noted_leaves slot t) (own_keeps slot t.place (given_tickets t.due) (given_steady t.due) t.lines)
    (run_keeps slot next (track_noted slot t))

-- and so where it leaves its line
pub ended_keeps : (slot : ℕ) (t : Track) → KeepsAhead slot t.lines (ended_by slot t).lines
ended_keeps slot t = at_place slot t.place (without slot) t.lines (λ x y x_other y_other ms member is. ahead_left slot x y ms x_other y_other is)

module _ (slot : ℕ) (e : Option Extent) (t : Track) (s : SiteId) (o : Op) (a : Answer) (to : Plan) where
  abbrev pub goes_to : Track
  goes_to = run slot to (answered_by slot e t s o a)

  pub answer_keeps : KeepsAhead slot t.lines goes_to.lines
  answer_keeps =
      then slot t.lines (answered_by slot e t s o a).lines goes_to.lines (answered_leaves slot e t s o a) (answered_keeps slot e t s o a) (run_keeps slot to (answered_by slot e t s o a))

  -- and so where it ends there
  pub end_keeps : KeepsAhead slot t.lines (ended_by slot goes_to).lines
  end_keeps =
      then slot t.lines goes_to.lines (ended_by slot goes_to).lines
      (λ other differ site i. run_leaves slot to (answered_by slot e t s o a) other differ site i ∙ answered_leaves slot e t s o a other differ site i) answer_keeps
      (ended_keeps slot goes_to)
