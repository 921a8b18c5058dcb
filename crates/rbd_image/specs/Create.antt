-- `create`: the plan that makes an image.
use Rattle.std.specs.Prelude.{◌≡◌, ℕ, List, Bool, false, not, Option, Some, None}
use Rattle.rbd_image.specs.declared.create.CreateRequest.{CreateRequest}
use Rattle.rbd_image.specs.declared.create.Stage.{Stage}
use Rattle.rbd_image.specs.declared.create.Stage.TheVariants as stage
use Rattle.rbd_kinds.specs.declared.answer.Answer.{Answer}
use Rattle.rbd_kinds.specs.declared.answer.Answer.TheVariants as answer
use Rattle.rbd_commands.specs.declared.command.Command.{Command}
use Rattle.rbd_commands.specs.declared.command.Command.TheVariants as command
use Rattle.rbd_commands.specs.declared.command.Shape.{Shape}
use Rattle.rbd_kinds.specs.declared.directory_op.DirectoryOp.TheVariants as directory
use Rattle.rbd_kinds.specs.declared.header.HeaderView.{HeaderView}
use Rattle.rbd_kinds.specs.declared.header_op.HeaderOp.TheVariants as header
use Rattle.rbd_kinds.specs.declared.id.SiteId.{SiteId}
use Rattle.rbd_kinds.specs.declared.map_op.MapOp.TheVariants as states
use Rattle.rbd_kinds.specs.declared.operation.Op.TheVariants as op
use Rattle.rbd_commands.specs.declared.refusal.Refusal.{Refusal}
use Rattle.rbd_commands.specs.declared.refusal.Refusal.TheVariants as refusal
use Rattle.rbd_kinds.specs.declared.reply.Reply.TheVariants as reply
use Rattle.rbd_kinds.specs.Striping.{IsObjectCount}
use Rattle.rbd_header.specs.Header.{new_header}
use Rattle.rbd_layout.specs.Asked.{layout_of, KeepsLimits}
use Rattle.rbd_machine.specs.Plan.{Plan, Return}
use Rattle.rbd_machine.specs.Steps.{own, refused, not_there, on_done, EndsIt}

-- the commands that it serves: an image with a journal isn't built yet
abbrev pub is_create : Command → Bool
is_create (command.Create image size shape) = not shape.journal
is_create _ = false

-- the id that was drawn for a name, or why none was: the name is held, or no more names or ids are
-- left
abbrev pub on_drawn : (ℕ → Plan) → Answer → Plan
on_drawn next (answer.Id image) = next image
on_drawn next answer.Exists = refused refusal.ImageExists
on_drawn next answer.Full = refused refusal.BadShape
on_drawn next a = not_there a

abbrev pub TellsDrawn : Answer → Type 0
TellsDrawn (answer.Id image) = Unit {0}
TellsDrawn answer.Exists = Unit {0}
TellsDrawn answer.Full = Unit {0}
TellsDrawn a = EndsIt a

abbrev pub making : SiteId → HeaderView → (image : ℕ) → Plan
making site h image = own site (op.Header image (header.Create h)) (on_done (Return reply.Done))

-- the map of its objects, none of which is there yet
abbrev pub mapping : SiteId → (objects : ℕ) → HeaderView → (image : ℕ) → Plan
mapping site objects h image = own site (op.Map image (states.Resize objects)) (on_done (making site h image))

abbrev pub drawing : SiteId → (name : List ℕ) → (objects : ℕ) → HeaderView → Plan
drawing site name objects h = own site (op.Directory (directory.Add name)) (on_drawn (mapping site objects h))

-- An image without a journal is asked for. A shape outside the limits is refused before any
-- operation.
pub record IsCreate (site : SiteId) (name : List ℕ) (size : ℕ) (shape : Shape) (plan : Plan) : Type 0 where
  pub plain : shape.journal ≡ false
  pub outside : (KeepsLimits (layout_of shape) size → ⊥) → plan ≡ refused refusal.BadShape
  pub objects : ℕ
  pub counted : KeepsLimits (layout_of shape) size → IsObjectCount (layout_of shape) size objects
  pub within : KeepsLimits (layout_of shape) size → plan ≡ drawing site name objects (new_header (layout_of shape) size)

abbrev pub IsCreatePlan : SiteId → Command → Plan → Type 0
IsCreatePlan site (command.Create image size shape) plan = IsCreate site image size shape plan
IsCreatePlan site _ plan = ⊥

-- ---- where a request stands

abbrev pub rest_at : Stage → CreateRequest → Plan
rest_at stage.Outside r = refused refusal.BadShape
rest_at stage.Drawing r = drawing r.site r.name r.objects (new_header r.layout r.size)
rest_at (stage.Mapping image) r = mapping r.site r.objects (new_header r.layout r.size) image
rest_at (stage.Making image) r = making r.site (new_header r.layout r.size) image

-- what is left of one
abbrev pub rest_of_create : CreateRequest → Plan
rest_of_create r = rest_at r.stage r

-- why a plan has ended, where it has ended refused
abbrev pub refusal_at : Plan → Option Refusal
refusal_at (Return (reply.Refused r)) = Some r
refusal_at _ = None
