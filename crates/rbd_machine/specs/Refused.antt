-- When a request is refused: by the answer to its last operation, and that is an operation of an
-- own image or of none, but for the fence. An image above it that is gone refuses nothing.
use Rattle.std.specs.Prelude.{◌≡◌, ◌⊎◌, Bool, true, false, List, [], ◌∷◌, ◌++◌, Option, Some, None}
use Rattle.rbd_kinds.specs.declared.answer.Answer.{Answer}
use Rattle.rbd_kinds.specs.declared.answer.Answer.TheVariants as answer
use Rattle.rbd_kinds.specs.declared.children_op.ChildrenOp.TheVariants as child
use Rattle.rbd_kinds.specs.declared.data_op.DataOp.TheVariants as object
use Rattle.rbd_kinds.specs.declared.directory_op.DirectoryOp.TheVariants as directory
use Rattle.rbd_kinds.specs.declared.header.HeaderView.{HeaderView}
use Rattle.rbd_kinds.specs.declared.header_op.HeaderOp.TheVariants as header
use Rattle.rbd_kinds.specs.declared.id.SiteId.{SiteId}
use Rattle.rbd_kinds.specs.declared.journal_op.JournalOp.TheVariants as journal
use Rattle.rbd_kinds.specs.declared.map_op.MapOp.TheVariants as states
use Rattle.rbd_kinds.specs.declared.operation.Op.{Op}
use Rattle.rbd_kinds.specs.declared.operation.Op.TheVariants as op
use Rattle.rbd_commands.specs.declared.refusal.Refusal.{Refusal}
use Rattle.rbd_commands.specs.declared.refusal.Refusal.TheVariants as refusal
use Rattle.rbd_machine.specs.About.{AreOwn, IsOwnOp, owned_after, owned_behind}
use Rattle.rbd_machine.specs.Answers.{CanGive}
use Rattle.rbd_machine.specs.Knowledge.{ImagePlace}
use Rattle.rbd_machine.specs.Path.{Answered}

-- What an answer to an operation refuses, where a request refuses some headers: the fence refuses
-- anything, what isn't there is no image (a snapshot's map may be missing), and a new name may be
-- held, or be one too many.
abbrev pub refusal_by : (HeaderView → Option Refusal) → Op → Answer → Option Refusal
refusal_by refuses o answer.Fenced = Some refusal.Fenced
refusal_by refuses (op.Directory (directory.Find name)) answer.Absent = Some refusal.NoImage
refusal_by refuses (op.Directory (directory.Add name)) answer.Exists = Some refusal.ImageExists
refusal_by refuses (op.Directory (directory.Add name)) answer.Full = Some refusal.BadShape
refusal_by refuses (op.Directory (directory.Rename from to)) answer.Absent = Some refusal.NoImage
refusal_by refuses (op.Directory (directory.Rename from to)) answer.Exists = Some refusal.ImageExists
refusal_by refuses (op.Header image o) answer.Absent = Some refusal.NoImage
refusal_by refuses (op.Header image header.Get) (answer.Header h) = refuses h
refusal_by refuses (op.Map image (states.Get None)) answer.Absent = Some refusal.NoImage
refusal_by refuses (op.Map image (states.Set None object state)) answer.Absent = Some refusal.NoImage
refusal_by refuses o a = None

-- a request that refuses no header
abbrev pub refuses_none : HeaderView → Option Refusal
refuses_none h = None

-- The operation changes nothing that users see: object maps say where to look, and are no part of
-- an image.
abbrev pub only_looks : Op → Bool
only_looks (op.Directory (directory.Find name)) = true
only_looks (op.Directory directory.List) = true
only_looks (op.Children (child.List parent snap)) = true
only_looks (op.Header image header.Get) = true
only_looks (op.Header image header.WatchersGet) = true
only_looks (op.Data image number (object.Read snap parts)) = true
only_looks (op.Map image o) = true
only_looks (op.Journal image (journal.Read seq)) = true
only_looks (op.Journal image journal.Spans) = true
only_looks _ = false

abbrev pub AreLooks : List Answered → Type 0
AreLooks [] = Unit {0}
AreLooks (step ∷ steps) = (only_looks step.op ≡ true) × AreLooks steps

-- The header of an image and the map of its head are there as long as the image is. So who owns the
-- image is never answered that the header is missing whose size it sets or which it removes, nor
-- the map in which it sets a state or which it removes.
abbrev pub finds_image : Op → Answer → Bool
finds_image (op.Header image (header.SetSize to)) answer.Absent = false
finds_image (op.Header image header.Remove) answer.Absent = false
finds_image (op.Map image (states.Set None object state)) answer.Absent = false
finds_image (op.Map image (states.Remove None)) answer.Absent = false
finds_image o a = true

-- what a request is answered that owns what it changes
pub record IsGiven (o : Op) (a : Answer) : Type 0 where
  pub can : CanGive o a
  pub finds : finds_image o a ≡ true

-- so it is with each operation and its answer
abbrev pub AreGiven : List Answered → Type 0
AreGiven [] = Unit {0}
AreGiven (step ∷ steps) = IsGiven step.op step.answer × AreGiven steps

-- Whose answers refuse: the fence's, and those to operations of own images, or of none.
abbrev pub MayRefuse : List ImagePlace → Answered → Type 0
MayRefuse images step = (step.answer ≡ answer.Fenced) ⊎ IsOwnOp images step.site step.op

-- no answer refuses a request that has these images as its own before the first
abbrev pub AreAllowed : (HeaderView → Option Refusal) → List ImagePlace → List Answered → Type 0
AreAllowed refuses images [] = Unit {0}
AreAllowed refuses images (step ∷ steps) =
    (MayRefuse images step → refusal_by refuses step.op step.answer ≡ None)
    × AreAllowed refuses (owned_after images step.site step.op step.answer) steps

-- Which refusals may come when a part was done: none, of a request that changes by its last
-- operation alone, or the fence's, which may come at any time.
abbrev pub never : Refusal → Type 0
never x = ⊥

abbrev pub by_fence : Refusal → Type 0
by_fence x = x ≡ refusal.Fenced

-- The answer to the last operation refuses it so, as the first refusal that holds there, and no
-- answer before refused it; and unless it may come late, nothing was changed before. These are the
-- request's own images before the first operation.
pub record IsRefusedWith (images : List ImagePlace) (refuses : HeaderView → Option Refusal) (late : Refusal → Type 0)
    (steps : List Answered) (x : Refusal) : Type 0 where
  pub before : List Answered
  pub last : Answered
  pub are : steps ≡ before ++ last ∷ []
  pub own : MayRefuse (owned_behind images before) last
  pub refused : refusal_by refuses last.op last.answer ≡ Some x
  pub allowed : AreAllowed refuses images before
  pub unchanged : (late x → ⊥) → AreLooks before

-- so it is refused from its beginning, where it has no image
abbrev pub IsRefusedBy : (HeaderView → Option Refusal) → (Refusal → Type 0) → List Answered → Refusal → Type 0
IsRefusedBy = IsRefusedWith []

-- A request was refused so, by an answer to an operation of its own.
pub record IsRefused (site : SiteId) (ask : Op) (refuses : HeaderView → Option Refusal) (late : Refusal → Type 0)
    (steps : List Answered) (x : Refusal) : Type 0 where
  pub own : AreOwn site ask steps
  pub by : IsRefusedBy refuses late steps x
