-- Requests that keep to their line: what they may wait for where.
use Rattle.std.specs.Prelude.{◌≡◌, ℕ, Bool, true, false, List, [], ◌∷◌, Option, Some, None}
use Rattle.rbd_machine.specs.Course.{Course, PlaceInLine, answered, waited, noted, objects_behind, is_newcomer_at}
use Rattle.rbd_kinds.specs.declared.answer.Answer.{Answer}
use Rattle.rbd_kinds.specs.declared.id.SiteId.{SiteId}
use Rattle.rbd_kinds.specs.declared.layout.Extent.{Extent}
use Rattle.rbd_machine.specs.Answers.{CanGive}
use Rattle.rbd_machine.specs.Knowledge.{is_at}
use Rattle.rbd_machine.specs.Label.{Label}
use Rattle.rbd_machine.specs.Plan.{Plan, Ask, Await, Note, Return, Goto, Standing, IsAsking, IsClosed}
use Rattle.rbd_machine.specs.Wait.{Wait}
use Rattle.rbd_machine.specs.Wait as wait

-- the request is in the line of an image
abbrev pub IsInLine : SiteId → (image : ℕ) → Option PlaceInLine → Type 0
IsInLine site image None = ⊥
IsInLine site image (Some p) = is_at site image p.site p.image ≡ true

-- the object is the first of these
abbrev pub IsFirstObject : (object : ℕ) → List ℕ → Type 0
IsFirstObject object [] = ⊥
IsFirstObject object (first ∷ objects) = object ≡ first

-- What a request may wait for. It joins one line at a time, as the first thing behind an answer; it
-- waits for a lock in its line, once, before anything else there; it leaves only a line that it is
-- in; and it takes its turns at the objects for which it has tickets, in their order.
abbrev pub MayWait : (answered : Bool) → Course → Wait → Type 0
MayWait fresh c (wait.Join site image sharing) = (fresh ≡ true) × (c.place ≡ None)
MayWait fresh c (wait.Hold site image) = IsInLine site image c.place × (is_newcomer_at c.place ≡ true)
MayWait fresh c (wait.Turn object) = IsFirstObject object (objects_behind c.turn c.objects)
MayWait fresh c (wait.Applied site image) = IsInLine site image c.place
MayWait fresh c (wait.Leave site image) = IsInLine site image c.place

-- The request keeps to its line, whatever its operations are answered of what they can give. Its
-- note, at whose end it takes its tickets, stands directly behind its look under the lock. It goes
-- to a label only on the course that belongs there.
abbrev pub IsOrderly : Option Extent → (at : Label → Course) → (fresh : Bool) → Course → Plan → Type 0
IsOrderly e at fresh c (Ask site why op next) = (c.due ≡ [])
    × ((answer : Answer) → CanGive op answer → IsOrderly e at true (answered e c site op answer) (next answer))
IsOrderly e at fresh c (Await wait next) = MayWait fresh c wait × IsOrderly e at false (waited c wait) next
IsOrderly e at fresh c (Note site image event next) = IsInLine site image c.place × IsOrderly e at fresh (noted c) next
IsOrderly e at fresh c (Return reply) = Unit {0}
IsOrderly e at fresh c (Goto label) = c ≡ at label

-- Each label that a request goes to stands at an operation, and the request is orderly from there
-- too.
pub record IsOrderlyFrom (e : Option Extent) (fresh : Bool) (c : Course) (s : Standing) : Type 0 where
  pub at : Label → Course
  pub orderly : IsOrderly e at fresh c s.plan
  pub closed : IsClosed s.labels s.plan
  pub labels : (label : Label) → IsAsking (s.labels label)
      → IsOrderly e at true (at label) (s.labels label) × IsClosed s.labels (s.labels label)
