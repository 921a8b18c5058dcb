-- What an operation of a fenced client does, and a look, which is nothing; and whose changes are.
use Rattle.std.specs.Prelude.{◌≡◌, ◌⊎◌, ℕ, ◌==◌, Bool, true, false, List, [], ◌∷◌, ◌++◌, Option, None}
use Rattle.rbd_kinds.specs.declared.answer.Answer.TheVariants as answer
use Rattle.rbd_kinds.specs.declared.data_op.DataOp.TheVariants as object
use Rattle.rbd_kinds.specs.declared.directory_op.DirectoryOp.TheVariants as directory
use Rattle.rbd_kinds.specs.declared.header_op.HeaderOp.TheVariants as header
use Rattle.rbd_kinds.specs.declared.id.Instance.{Instance}
use Rattle.rbd_kinds.specs.declared.id.SiteId.{SiteId}
use Rattle.rbd_kinds.specs.declared.map_op.MapOp.TheVariants as states
use Rattle.rbd_kinds.specs.declared.operation.Op.{Op}
use Rattle.rbd_kinds.specs.declared.operation.Op.TheVariants as op
use Rattle.rbd_kinds.specs.declared.reply.Reply.{Reply}
use Rattle.rbd_machine.specs.Path.{Answered}
use Rattle.rbd_site.specs.Step.{is_fenced}
use Rattle.rbd_stands.specs.Owned.{HasLock, changes_image, was_done}
use Rattle.rbd_world.specs.Late.{is_stopped_among}
use Rattle.rbd_world.specs.Past.{HadNoHeader}
use Rattle.rbd_world.specs.Run.{Doer, Itself, AfterStop, Happening, Did, Stopped, Operation, flat_after, is_line_among, mail_of, records_after, steps_of}
use Rattle.rbd_world.specs.Sound.{AsksFor}

-- It has no effect, and leaves the flat sites, the records of both sites and the notices as they
-- were.
pub record LeavesAll (o : Operation) (reply : Option Reply) (before : List Happening) : Type 0 where
  pub silent : o.effect ≡ None
  pub flat : (s : SiteId) → flat_after s (Did o reply ∷ before) ≡ flat_after s before
  pub records : (s : SiteId) → records_after s (Did o reply ∷ before) ≡ records_after s before
  pub mail : mail_of (Did o reply ∷ before) ≡ mail_of before

-- It is answered so, and leaves all as it was.
pub record IsWithoutEffect (o : Operation) (reply : Option Reply) (before : List Happening) : Type 0 where
  pub answered : o.answer ≡ answer.Fenced
  pub leaves : LeavesAll o reply before

-- An operation changes nothing where its instance is fenced at its site.
abbrev pub IsStoppedByTheFence : Operation → Option Reply → List Happening → Type 0
IsStoppedByTheFence o reply before =
    is_fenced (records_after o.site before) o.instance ≡ true → IsWithoutEffect o reply before

-- ---- an image without a header

-- it holds of one of these operations
abbrev pub SomeStep : (P : Answered → Type 0) → List Answered → Type 0
SomeStep P [] = ⊥
SomeStep P (step ∷ steps) = P step ⊎ SomeStep P steps

-- The operation was sent by a line that was lost when its instance's session was stopped last.
-- There the line's command stood at the operation, and had done such a one itself before.
pub record DidBeforeStop (homes : ℕ → SiteId) (P : Answered → Type 0) (o : Operation)
    (before : List Happening) : Type 0 where
  -- what the slots wanted, which lines were lost, what was until the stop, and what came since
  pub wanted : List (Option (SiteId × Op))
  pub lost : List ℕ
  pub until : List Happening
  pub since : List Happening
  pub are : before ≡ since ++ Stopped o.instance wanted lost ∷ until
  pub last : is_stopped_among o.instance.session since ≡ false
  pub line : ℕ
  pub among : is_line_among line lost ≡ true
  pub stands : AsksFor homes line o.site o.op until
  pub mine : stands.begun.asked.who ≡ o.instance
  pub did : SomeStep P (steps_of line until)

-- The command that the operation is done for did such a one itself, before.
abbrev pub DidBefore : (homes : ℕ → SiteId) (P : Answered → Type 0) → Doer → Operation → (before : List Happening)
    → Type 0
DidBefore homes P (Itself line) o before = SomeStep P (steps_of line before)
DidBefore homes P (AfterStop slot) o before = DidBeforeStop homes P o before
DidBefore homes P by o before = ⊥

-- the id of a new image was drawn, with its name
pub record DrewId (s : SiteId) (image : ℕ) (step : Answered) : Type 0 where
  pub name : List ℕ
  pub site : step.site ≡ s
  pub adds : step.op ≡ op.Directory (directory.Add name)
  pub told : step.answer ≡ answer.Id image

-- the header of an image was removed
pub record RemovedHeader (s : SiteId) (image : ℕ) (step : Answered) : Type 0 where
  pub site : step.site ≡ s
  pub removes : step.op ≡ op.Header image header.Remove
  pub done : step.answer ≡ answer.Done

-- The operation makes a map of an image that has no header and never had one: so nobody can own the
-- image. Its maker drew the image's id.
pub record MakesMap (homes : ℕ → SiteId) (image : ℕ) (o : Operation) (before : List Happening) : Type 0 where
  pub count : ℕ
  pub is : o.op ≡ op.Map image (states.Resize count)
  pub headless : (records_after o.site before).headers image ≡ None
  pub new : HadNoHeader o.site image before
  pub drew : DidBefore homes (DrewId o.site image) o.by o before

-- whether an operation removes an object of an image, or an object map
abbrev pub removes_part : (image : ℕ) → Op → Bool
removes_part image (op.Data other number (object.Remove context)) = other == image
removes_part image (op.Map other (states.Remove view)) = other == image
removes_part image _ = false

-- The operation removes what is left of an image whose header is gone: so nobody owns the image any
-- more. Its command had removed the header.
pub record RemovesRest (homes : ℕ → SiteId) (image : ℕ) (o : Operation) (before : List Happening) : Type 0 where
  pub is : removes_part image o.op ≡ true
  pub headless : (records_after o.site before).headers image ≡ None
  pub removed : DidBefore homes (RemovedHeader o.site image) o.by o before

-- Who changes an image has its lock, by its header; or makes the map of an image whose id it drew
-- and that has no header yet; or removes what is left of one whose header it removed. Of an
-- operation that comes late this is said of the line that was lost.
abbrev pub OwnsOrNone : (homes : ℕ → SiteId) (image : ℕ) → Operation → (before : List Happening) → Type 0
OwnsOrNone homes image o before =
    HasLock image o.instance (records_after o.site before)
    ⊎ (MakesMap homes image o before ⊎ RemovesRest homes image o before)

-- ---- all of it

-- An operation that changes an image may do so, and one that breaks a lock comes only where the
-- lock's owner is fenced.
pub record IsTheOwners (homes : ℕ → SiteId) (o : Operation) (reply : Option Reply)
    (before : List Happening) : Type 0 where
  pub change : (image : ℕ) → changes_image image o.op ≡ true → was_done o.answer ≡ true
      → OwnsOrNone homes image o before
  pub broken : (image : ℕ) (owner : Instance) → o.op ≡ op.Header image (header.LockBreak owner) → o.answer ≡ answer.Done
      → is_fenced (records_after o.site before) owner ≡ true

-- so it is with each operation of a run, at its place
abbrev pub AtEachOperation : (Operation → Option Reply → List Happening → Type 0) → List Happening → Type 0
AtEachOperation Holds [] = Unit {0}
AtEachOperation Holds (Did o reply ∷ run) = Holds o reply run × AtEachOperation Holds run
AtEachOperation Holds (h ∷ run) = AtEachOperation Holds run
