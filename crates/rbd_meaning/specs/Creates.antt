-- `create`: what has been made when one is done, and what its replies mean.
use Rattle.std.specs.Prelude.{◌≡◌, ◌⊎◌, ◌≤◌, ℕ, List, [], ◌∷◌, length}
use Rattle.rbd_kinds.specs.declared.answer.Answer.TheVariants as answer
use Rattle.rbd_commands.specs.declared.command.Shape.{Shape}
use Rattle.rbd_kinds.specs.declared.directory_op.DirectoryOp.TheVariants as directory
use Rattle.rbd_kinds.specs.declared.header.HeaderView.{HeaderView}
use Rattle.rbd_kinds.specs.declared.header_op.HeaderOp.TheVariants as header
use Rattle.rbd_kinds.specs.declared.id.SiteId.{SiteId}
use Rattle.rbd_kinds.specs.declared.map_op.MapOp.TheVariants as states
use Rattle.rbd_kinds.specs.declared.operation.Op.TheVariants as op
use Rattle.rbd_commands.specs.declared.refusal.Refusal.{Refusal}
use Rattle.rbd_commands.specs.declared.refusal.Refusal.TheVariants as refusal
use Rattle.rbd_kinds.specs.declared.reply.Reply.{Reply}
use Rattle.rbd_kinds.specs.declared.reply.Reply.TheVariants as reply
use Rattle.rbd_kinds.specs.Striping.{IsObjectCount}
use Rattle.rbd_header.specs.Header.{new_header}
use Rattle.rbd_layout.specs.Asked.{layout_of, KeepsLimits}
use Rattle.rbd_machine.specs.Path.{Answered}
use Rattle.rbd_machine.specs.Refused.{refuses_none, by_fence, IsRefused}

-- An id was drawn for the name, and a map of the image's objects and the header of a new image were
-- made under it.
pub record MakesOne (site : SiteId) (name : List ℕ) (h : HeaderView) (steps : List Answered) : Type 0 where
  pub image : ℕ
  pub objects : ℕ
  pub counted : IsObjectCount h.layout h.size objects
  pub are : steps ≡ record { site = site; op = op.Directory (directory.Add name); answer = answer.Id image }
      ∷ record { site = site; op = op.Map image (states.Resize objects); answer = answer.Done }
      ∷ record { site = site; op = op.Header image (header.Create h); answer = answer.Done } ∷ []

-- The shape is within the limits, and the image was made.
pub record Makes (site : SiteId) (name : List ℕ) (size : ℕ) (shape : Shape) (steps : List Answered) : Type 0 where
  pub within : KeepsLimits (layout_of shape) size
  pub made : MakesOne site name (new_header (layout_of shape) size) steps

-- The shape is outside the limits, and no operation was done.
pub record IsOutsideLimits (size : ℕ) (shape : Shape) (steps : List Answered) (x : Refusal) : Type 0 where
  pub outside : KeepsLimits (layout_of shape) size → ⊥
  pub none : steps ≡ []
  pub is : x ≡ refusal.BadShape

-- The shape is within the limits, and the last answer refused the request. Before that at most its
-- id was drawn and its map made.
pub record IsNotMade (site : SiteId) (name : List ℕ) (size : ℕ) (shape : Shape) (steps : List Answered)
    (x : Refusal) : Type 0 where
  pub within : KeepsLimits (layout_of shape) size
  pub by : IsRefused site (op.Directory (directory.Add name)) refuses_none by_fence steps x
  pub few : length steps ≤ 3

abbrev pub CreateMeans : SiteId → (name : List ℕ) → (size : ℕ) → Shape → List Answered → Reply → Type 0
CreateMeans site name size shape steps reply.Done = Makes site name size shape steps
CreateMeans site name size shape steps (reply.Refused x) = IsOutsideLimits size shape steps x
    ⊎ IsNotMade site name size shape steps x
CreateMeans site name size shape steps _ = ⊥
