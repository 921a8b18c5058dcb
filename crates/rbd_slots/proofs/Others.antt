-- What a request does in its line leaves the others where they are, and itself out of all other
-- lines.
use Rattle.std.proofs.Common.{◌≡◌, ◌≢◌, ℕ, cond, Bool, true, false, List, [], ◌∷◌, ◌++◌, Option, Some, None, refl, ap, ◌∙◌}
use Rattle.rbd_kinds.specs.declared.answer.Answer.{Answer}
use Rattle.rbd_kinds.specs.declared.answer.Answer.TheVariants as answer
use Rattle.rbd_kinds.specs.declared.header_op.HeaderOp.TheVariants as header
use Rattle.rbd_kinds.specs.declared.id.SiteId.{SiteId}
use Rattle.rbd_kinds.specs.declared.layout.Extent.{Extent}
use Rattle.rbd_kinds.specs.declared.machine.Want.{Want}
use Rattle.rbd_kinds.specs.declared.machine.Want.TheVariants as want
use Rattle.rbd_kinds.specs.declared.operation.Op.{Op}
use Rattle.rbd_kinds.specs.declared.operation.Op.TheVariants as op
use Rattle.rbd_machine.specs.Course.{looks_under_lock_at}
use Rattle.rbd_queue.specs.Line.{Member, member_of, changed_member, without, new_member, held, passed}
use Rattle.rbd_machine.specs.Knowledge.{is_at}
use Rattle.rbd_machine.specs.Plan.{Plan, Ask, Await, Note, Return, Goto}
use Rattle.rbd_machine.specs.Wait.{Wait}
use Rattle.rbd_machine.specs.Wait as wait
use Rattle.rbd_kinds.specs.declared.image_at.ImageAt.{ImageAt}
use Rattle.rbd_slots.specs.Track.{Track, Lines, line_changed_at, place_of_image, course_of, given_tickets, done_with, waited_by, track_noted, track_looked, answered_by, passed_by, run, ended_by}
use Rattle.rbd_slots.specs.OnTrack.{IsNowhereElse, LeavesOthers, is_here}
use Rattle.rbd_queue.specs.Steady.{IsSteady}
use Rattle.rbd_queue.proofs.Passing.{others_changed, others_left, others_joined, gone, held_is_steady, passed_is_steady}
use Rattle.rbd_slots.proofs.Track.{done_steady, given_steady}

-- ---- the others

changed_leaves : (slot : ℕ) (place : Option ImageAt) (change : List Member → List Member) (lines : Lines)
    → ((other : ℕ) → other ≢ slot → (members : List Member) → member_of other (change members) ≡ member_of other members)
    → LeavesOthers slot lines (line_changed_at place change lines)
changed_leaves slot None change lines leaves other differ site image = refl
changed_leaves slot (Some p) change lines leaves other differ site image = go (is_at p.site p.image site image)
  where
    go : (b : Bool) → member_of other (cond b (change (lines site image)) (lines site image)) ≡ member_of other (lines site image)
    go true = leaves other differ (lines site image)
    go false = refl

own_leaves : (slot : ℕ) (place : Option ImageAt) (f : Member → Member) → IsSteady f → (lines : Lines) → LeavesOthers slot lines (line_changed_at place (changed_member slot f) lines)
own_leaves slot place f keeps lines = changed_leaves slot place (changed_member slot f) lines (λ other differ members. others_changed members slot other f keeps differ)

pub waited_leaves : (slot : ℕ) (t : Track) (w : Wait) → LeavesOthers slot t.lines (waited_by slot t w).lines
waited_leaves slot t (wait.Join site image sharing) =
    changed_leaves slot (Some (place_of_image site image)) (λ members. members ++ new_member slot sharing ∷ []) t.lines (λ other differ members. others_joined members slot other sharing differ)
waited_leaves slot t (wait.Hold site image) = own_leaves slot t.place held held_is_steady t.lines
waited_leaves slot t (wait.Turn object) = own_leaves slot t.place (done_with t.turn) (done_steady t.turn) t.lines
waited_leaves slot t (wait.Applied site image) = own_leaves slot t.place (done_with t.turn) (done_steady t.turn) t.lines
waited_leaves slot t (wait.Leave site image) = changed_leaves slot t.place (without slot) t.lines (λ other differ members. others_left members slot other differ)

pub noted_leaves : (slot : ℕ) (t : Track) → LeavesOthers slot t.lines (track_noted slot t).lines
noted_leaves slot t = own_leaves slot t.place (given_tickets t.due) (given_steady t.due) t.lines

pub passed_leaves : (slot : ℕ) (t : Track) (w : Want) → LeavesOthers slot t.lines (passed_by slot t w).lines
passed_leaves slot t (want.Op site kind) other differ s i = refl
passed_leaves slot t (want.Join site image sharing) other differ s i = waited_leaves slot t (wait.Join site image sharing) other differ s i
passed_leaves slot t (want.Hold site image) other differ s i = waited_leaves slot t (wait.Hold site image) other differ s i
passed_leaves slot t (want.Note site image) other differ s i = noted_leaves slot t other differ s i
passed_leaves slot t (want.Turn object) other differ s i = waited_leaves slot t (wait.Turn object) other differ s i
passed_leaves slot t (want.Applied site image) other differ s i = waited_leaves slot t (wait.Applied site image) other differ s i
passed_leaves slot t (want.Leave site image) other differ s i = waited_leaves slot t (wait.Leave site image) other differ s i

pub answered_leaves : (slot : ℕ) (e : Option Extent) (t : Track) (s : SiteId) (o : Op) (a : Answer) → LeavesOthers slot t.lines (answered_by slot e t s o a).lines
answered_leaves slot e t s (op.Header image header.Get) (answer.Header h) other differ site i = go (looks_under_lock_at s image (course_of slot t).place)
  where
    go : (b : Bool) → member_of other ((cond b (track_looked slot e h t) t).lines site i) ≡ member_of other (t.lines site i)
    go true = own_leaves slot t.place passed passed_is_steady t.lines other differ site i
    go false = refl
answered_leaves slot e t s o a other differ site image = refl

pub run_leaves : (slot : ℕ) (plan : Plan) (t : Track) → LeavesOthers slot t.lines (run slot plan t).lines
run_leaves slot (Ask site why o next) t other differ s i = refl
run_leaves slot (Await w next) t other differ s i = run_leaves slot next (waited_by slot t w) other differ s i ∙ waited_leaves slot t w other differ s i
run_leaves slot (Note site image event next) t other differ s i = run_leaves slot next (track_noted slot t) other differ s i ∙ noted_leaves slot t other differ s i
run_leaves slot (Return reply) t other differ s i = refl
run_leaves slot (Goto label) t other differ s i = refl

pub ended_leaves : (slot : ℕ) (t : Track) → LeavesOthers slot t.lines (ended_by slot t).lines
ended_leaves slot t = changed_leaves slot t.place (without slot) t.lines (λ other differ members. others_left members slot other differ)

-- ---- no other line

-- a line that isn't here is as before
pub unchanged : (p : ImageAt) (change : List Member → List Member) (lines : Lines) (site : SiteId) (image : ℕ) → is_here (Some p) site image ≡ false
    → line_changed_at (Some p) change lines site image ≡ lines site image
unchanged p change lines site image not_here = ap (λ b. cond b (change (lines site image)) (lines site image)) not_here

pub kept_elsewhere : (slot : ℕ) (place : Option ImageAt) (change : List Member → List Member) (lines : Lines) → IsNowhereElse slot place lines
    → IsNowhereElse slot place (line_changed_at place change lines)
kept_elsewhere slot None change lines nowhere site image not_here = nowhere site image not_here
kept_elsewhere slot (Some p) change lines nowhere site image not_here =
    ap (member_of slot) (unchanged p change lines site image not_here) ∙ nowhere site image not_here

pub joined_elsewhere : (slot : ℕ) (p : ImageAt) (change : List Member → List Member) (lines : Lines) → IsNowhereElse slot None lines
    → IsNowhereElse slot (Some p) (line_changed_at (Some p) change lines)
joined_elsewhere slot p change lines nowhere site image not_here =
    ap (member_of slot) (unchanged p change lines site image not_here) ∙ nowhere site image refl

pub left_elsewhere : (slot : ℕ) (place : Option ImageAt) (lines : Lines) → IsNowhereElse slot place lines
    → IsNowhereElse slot None (line_changed_at place (without slot) lines)
left_elsewhere slot None lines nowhere site image not_here = nowhere site image refl
left_elsewhere slot (Some p) lines nowhere site image not_here = go (is_at p.site p.image site image) refl
  where
    go : (b : Bool) → is_at p.site p.image site image ≡ b → member_of slot (cond b (without slot (lines site image)) (lines site image)) ≡ None
    go true is = gone (lines site image) slot
    go false is = nowhere site image is
