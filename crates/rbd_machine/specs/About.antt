-- The operations of a request on its image: a first one, whose answer tells the image, and those of
-- that image; beside them looks at the images that it was cloned from.
use Rattle.std.specs.Prelude.{◌≡◌, ◌⊎◌, ℕ, List, [], ◌∷◌, Any, Option, Some, None}
use Rattle.rbd_kinds.specs.declared.answer.Answer.{Answer}
use Rattle.rbd_kinds.specs.declared.answer.Answer.TheVariants as answer
use Rattle.rbd_kinds.specs.declared.children_op.ChildrenOp.TheVariants as child
use Rattle.rbd_kinds.specs.declared.data_op.DataOp.TheVariants as object
use Rattle.rbd_kinds.specs.declared.directory_op.DirectoryOp.TheVariants as directory
use Rattle.rbd_kinds.specs.declared.header.HeaderView.{HeaderView}
use Rattle.rbd_kinds.specs.declared.header.ParentLink.{ParentLink}
use Rattle.rbd_kinds.specs.declared.header.SnapView.{SnapView}
use Rattle.rbd_kinds.specs.declared.header_op.HeaderOp.TheVariants as header
use Rattle.rbd_kinds.specs.declared.id.SiteId.{SiteId}
use Rattle.rbd_kinds.specs.declared.operation.Op.{Op}
use Rattle.rbd_kinds.specs.declared.operation.Op.TheVariants as op
use Rattle.rbd_machine.specs.Ancestors.{HeaderSeen, IsAmong, seen_by}
use Rattle.rbd_machine.specs.Knowledge.{ImagePlace}
use Rattle.rbd_machine.specs.Path.{Answered, looked_at}

-- the look-up of a name, by which most begin
abbrev pub look_up : (name : List ℕ) → Op
look_up name = op.Directory (directory.Find name)

-- the image that an operation is of
abbrev pub image_of : Op → Option ℕ
image_of (op.Directory (directory.Remove image)) = Some image
image_of (op.Children (child.Add parent snap image)) = Some image
image_of (op.Children (child.Remove parent snap image)) = Some image
image_of (op.Header image o) = Some image
image_of (op.Data image number o) = Some image
image_of (op.Map image o) = Some image
image_of (op.Journal image o) = Some image
image_of _ = None

-- An own image of a request is one that it found by its name, or made: so its answers tell which
-- they are.
abbrev pub owned_after : List ImagePlace → SiteId → Op → Answer → List ImagePlace
owned_after images site (op.Directory (directory.Find name)) (answer.Id image) =
    record { site = site; image = image } ∷ images
owned_after images site (op.Directory (directory.Add name)) (answer.Id image) =
    record { site = site; image = image } ∷ images
owned_after images site o a = images

-- behind some operations, the first one first
abbrev pub owned_behind : List ImagePlace → List Answered → List ImagePlace
owned_behind images [] = images
owned_behind images (step ∷ steps) = owned_behind (owned_after images step.site step.op step.answer) steps

-- of an own image, or of none: a name, a fence, a list of children
abbrev pub IsOfOwn : List ImagePlace → SiteId → Option ℕ → Type 0
IsOfOwn images site None = Unit {0}
IsOfOwn images site (Some image) = IsAmong (record { site = site; image = image }) images

abbrev pub IsOwnOp : List ImagePlace → SiteId → Op → Type 0
IsOwnOp images site o = IsOfOwn images site (image_of o)

-- What is done to the images that the own one was cloned from: their headers are looked at, and
-- their snapshots are read.
abbrev pub IsLookAbove : Op → Type 0
IsLookAbove (op.Header image header.Get) = Unit {0}
IsLookAbove (op.Data image number (object.Read (Some snap) parts)) = Unit {0}
IsLookAbove o = ⊥

-- a header names the parent of its head, and that of each snapshot
abbrev pub NamesParent : HeaderView → ParentLink → Type 0
NamesParent h link = (h.parent ≡ Some link) ⊎ Any (λ (s : SnapView). s.parent ≡ Some link) h.snaps

-- a header that was told names the image as a parent
pub record IsNamedParent (seen : List HeaderSeen) (site : SiteId) (image : ℕ) : Type 0 where
  pub clone : ℕ
  pub header : HeaderView
  pub saw : IsAmong (record { site = site; image = clone; header = header }) seen
  pub link : ParentLink
  pub names : NamesParent header link
  pub is : link.image ≡ image

-- of an image that the own one was cloned from, or one of these in turn, as headers told
abbrev pub IsOfParent : List HeaderSeen → SiteId → Option ℕ → Type 0
IsOfParent seen site None = ⊥
IsOfParent seen site (Some image) = IsNamedParent seen site image

-- of the image, or a look above it, where these headers were told before the first
abbrev pub AreOfImage : List HeaderSeen → SiteId → (image : ℕ) → List Answered → Type 0
AreOfImage seen site image [] = Unit {0}
AreOfImage seen site image (step ∷ steps) = (step.site ≡ site)
    × ((image_of step.op ≡ Some image) ⊎ (IsLookAbove step.op × IsOfParent seen site (image_of step.op)))
    × AreOfImage (seen_by seen step.site step.op step.answer) site image steps

-- the first operation told the image, and the others are of that image, or look above it
pub record GoByImage (site : SiteId) (ask : Op) (first : Answered) (others : List Answered) : Type 0 where
  pub image : ℕ
  pub told : first ≡ record { site = site; op = ask; answer = answer.Id image }
  pub are : AreOfImage [] site image others

-- No header that a request was told names a parent: so it has nothing to look at above its image.
abbrev pub NamesNoParent : SiteId → List Answered → Type 0
NamesNoParent site steps = (image : ℕ) (h : HeaderView) (link : ParentLink) → IsAmong (looked_at site image h) steps
    → NamesParent h link → ⊥

-- The first operation is this one, and the others are of the image that it told, or look above it.
abbrev pub AreOwn : SiteId → (ask : Op) → List Answered → Type 0
AreOwn site ask [] = Unit {0}
AreOwn site ask (first ∷ []) = (first.site ≡ site) × (first.op ≡ ask)
AreOwn site ask (first ∷ next ∷ others) = GoByImage site ask first (next ∷ others)
