-- How many operations a plan has, by the pieces of an extent and by what it is told, and which
-- turns a change of an extent takes.
use Rattle.std.specs.Prelude.{◌≡◌, ℕ, zero, suc, ◌+◌, ◌*◌, ◌≤◌, max, List, [], ◌∷◌, length, false, Option, Some, None}
use Rattle.rbd_kinds.specs.declared.sharing.Sharing.{Sharing}
use Rattle.rbd_kinds.specs.Sharing.{is_alone}
use Rattle.rbd_kinds.specs.declared.answer.Answer.{Answer}
use Rattle.rbd_kinds.specs.declared.answer.Answer.TheVariants as answer
use Rattle.rbd_kinds.specs.declared.header.HeaderView.{HeaderView}
use Rattle.rbd_kinds.specs.declared.header.SnapView.{SnapView}
use Rattle.rbd_kinds.specs.declared.id.SiteId.{SiteId}
use Rattle.rbd_kinds.specs.declared.layout.Extent.{Extent}
use Rattle.rbd_commands.specs.declared.refusal.Refusal.{Refusal}
use Rattle.rbd_kinds.specs.Form.{IsHeaderInForm}
use Rattle.rbd_kinds.specs.Header.{snap_named}
use Rattle.rbd_layout.specs.Pieces.{pieces_of}
use Rattle.rbd_machine.specs.Answers.{CanGive}
use Rattle.rbd_machine.specs.Path.{Answered}
use Rattle.rbd_machine.specs.Label.{Label}
use Rattle.rbd_machine.specs.Plan.{Plan, Ask, Await, Note, Return, Goto, IsAsking, IsClosed, Standing}
use Rattle.rbd_machine.specs.Steps.{change_plan}
use Rattle.rbd_machine.specs.Turns.{AreTurns}
use Rattle.rbd_machine.specs.Course.{objects_within}
use Rattle.rbd_meaning.specs.Rollbacks.{at_size}
use Rattle.rbd_pieces.specs.Shrink.{head_from}
use Rattle.rbd_pieces.specs.Zero.{head_of}

-- so many pieces at most, by whatever header an image can have
abbrev pub HasAtMost : (most : ℕ) → Option Extent → Type 0
HasAtMost most None = Unit {0}
HasAtMost most (Some e) = (h : HeaderView) → IsHeaderInForm h → length (pieces_of h.layout e) ≤ most

-- The plan has at most n operations up to its end or to a label, whatever they are answered of what
-- they can give.
abbrev pub AsksAtMost : Plan → (n : ℕ) → Type 0
AsksAtMost (Ask site why op next) zero = ⊥
AsksAtMost (Ask site why op next) (suc n) = (answer : Answer) → CanGive op answer → AsksAtMost (next answer) n
AsksAtMost (Await wait next) n = AsksAtMost next n
AsksAtMost (Note site image event next) n = AsksAtMost next n
AsksAtMost (Return reply) n = Unit {0}
AsksAtMost (Goto label) n = Unit {0}

-- ---- how many it has by what it is told

-- three for each object that has bytes from a size on
abbrev pub cut_by : (to : ℕ) → HeaderView → ℕ
cut_by to h = 3 * length (pieces_of h.layout (head_from h to))

-- and four for each object that a snapshot's size has
abbrev pub restored_to : HeaderView → Option SnapView → ℕ
restored_to h None = 0
restored_to h (Some s) = cut_by s.size h + 4 * length (pieces_of h.layout (head_of (at_size s.size h)))

abbrev pub restored_by : (snap : List ℕ) → HeaderView → ℕ
restored_by snap h = restored_to h (snap_named h.snaps snap)

-- the most by any header that was told, by so many for each
abbrev pub by_header : (many : HeaderView → ℕ) → Answer → ℕ
by_header many (answer.Header h) = many h
by_header many _ = 0

abbrev pub most_told : (many : HeaderView → ℕ) → List Answered → ℕ
most_told many [] = 0
most_told many (step ∷ steps) = max (by_header many step.answer) (most_told many steps)

-- ---- turns

-- A change of an extent goes beside other requests: behind its look under the lock it has its turn
-- at each object that the extent has by that look, one after another, and at no others. Where it
-- begins a part again it has those turns that are left there.
pub record TakesTurns (e : Extent) (s : Standing) : Type 0 where
  pub site : SiteId
  pub name : List ℕ
  pub refuses : HeaderView → Option Refusal
  pub act : ℕ → HeaderView → Plan
  pub sharing : Sharing
  pub shared : is_alone sharing ≡ false
  pub is : s.plan ≡ change_plan site name sharing refuses act
  pub left : Label → List ℕ
  pub turns : (image : ℕ) (h : HeaderView) → refuses h ≡ None → AreTurns left (act image h) (objects_within h e)
  pub closed : IsClosed s.labels s.plan
  pub labels : (label : Label) → IsAsking (s.labels label)
      → AreTurns left (s.labels label) (left label) × IsClosed s.labels (s.labels label)
