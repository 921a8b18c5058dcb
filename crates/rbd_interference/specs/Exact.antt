-- Object maps that tell exactly which objects exist (Ceph: the object map, where no client was
-- stopped or fenced).
use Rattle.std.specs.Prelude.{◌≡◌, ◌≢◌, ◌⊎◌, ℕ, ◌==◌, ◌&&◌, Bool, true, false, if◌then◌else◌, List, Option, Some, None}
use Rattle.rbd_kinds.specs.declared.header.HeaderView.{HeaderView}
use Rattle.rbd_kinds.specs.declared.header.SnapView.{SnapView}
use Rattle.rbd_kinds.specs.declared.header_op.HeaderOp.TheVariants as header
use Rattle.rbd_kinds.specs.declared.id.SiteId.{SiteId}
use Rattle.rbd_kinds.specs.declared.map_op.MapOp.TheVariants as states
use Rattle.rbd_kinds.specs.declared.operation.Op.{Op}
use Rattle.rbd_kinds.specs.declared.operation.Op.TheVariants as op
use Rattle.rbd_header.specs.Header.{snap_in}
use Rattle.rbd_object.specs.Mapped.{Mapped}
use Rattle.rbd_interference.specs.Truth.{map_state_in}
use Rattle.rbd_site.specs.Records.{Records, object_at}
use Rattle.rbd_stands.specs.Covering.{Maps, exists_at}
use Rattle.rbd_stands.specs.View.{EachView}
use Rattle.rbd_interference.specs.Owed.{Due, Made, Gone, Lowered, Spot, makes, removes}

-- ---- what is owed by anybody

-- the state that was set for what is owed
abbrev pub state_of : Due → ℕ
state_of Made = 1
state_of Gone = 2
state_of Lowered = 2

-- somebody owes the object, for which this state was set
pub record IsOwed (debts : (who : ℕ) → Option Spot) (site : SiteId) (image number state : ℕ) : Type 0 where
  pub who : ℕ
  pub due : Due
  pub owes : debts who ≡ Some (record { site = site; image = image; object = number; due = due })
  pub is : state_of due ≡ state

-- ---- maps that are exact

-- the state is 1 where the object exists, and 0 where it doesn't
abbrev pub IsExactAt : (map : Option (List ℕ)) → (exists : ℕ → Bool) → (number : ℕ) → Type 0
IsExactAt map exists number = map_state_in map number ≡ (if exists number then 1 else 0)

-- the object has state 1, and somebody makes it next; or somebody removes it, or its state
abbrev pub IsStateOwed : (state : ℕ) → (owed : (state : ℕ) → Type 0) → Type 0
IsStateOwed state owed = ((state ≡ 1) × owed 1) ⊎ owed 2

-- The maps of an image are exact, but for objects of the head that are under way.
pub record AreExactBut (owed : (number state : ℕ) → Type 0) (h : HeaderView) (maps : Maps)
    (objects : ℕ → Mapped) : Type 0 where
  pub head : (number : ℕ) → IsExactAt (maps None) (exists_at objects None) number
      ⊎ IsStateOwed (map_state_in (maps None) number) (owed number)
  pub snaps : (t : ℕ) (s : SnapView) → snap_in h.snaps t ≡ Some s → (number : ℕ)
      → IsExactAt (maps (Some t)) (exists_at objects (Some t)) number

-- the maps are exact at each of the image's views
abbrev pub AreExact : HeaderView → Maps → (objects : ℕ → Mapped) → Type 0
AreExact h maps objects = EachView h (λ v shape. (number : ℕ) → IsExactAt (maps v) (exists_at objects v) number)

-- so it is of each image that has a header
pub record IsExactBut (owed : (image number state : ℕ) → Type 0) (r : Records) : Type 0 where
  pub images : (image : ℕ) (h : HeaderView) → r.headers image ≡ Some h
      → AreExactBut (owed image) h (r.maps image) (object_at r image)

-- ---- what an operation does to what is owed

-- whether an operation sets this state of an object in the head's map
abbrev pub sets_state : (image number state : ℕ) → Op → Bool
sets_state image number state (op.Map i (states.Set None object to)) = i == image && (object == number && to == state)
sets_state image number state o = false

-- whether an object is there after an operation
abbrev pub makes_object : (image number : ℕ) → Op → Bool
makes_object image number (op.Data i n o) = makes o && (i == image && n == number)
makes_object image number o = false

-- whether an operation removes an object
abbrev pub removes_object : (image number : ℕ) → Op → Bool
removes_object image number (op.Data i n o) = removes o && (i == image && n == number)
removes_object image number o = false

-- whether an operation takes a snapshot of the image
abbrev pub takes_snap : (image : ℕ) → Op → Bool
takes_snap image (op.Header i (header.SnapAdd name)) = i == image
takes_snap image o = false

-- The rules of what is owed. Who sets another state than 0 owes the object from then on, until the
-- object is made or its state is set to 0. An object of an image that has a header is removed only
-- by who owes that. No object of an image is owed when a snapshot of it is taken.
pub record KeepsWhatIsOwed (headers : (image : ℕ) → Option HeaderView) (o : Op)
    (owed later : (image number state : ℕ) → Type 0) : Type 0 where
  pub made : (image number : ℕ) → owed image number 1 → later image number 1 ⊎ (makes_object image number o ≡ true)
  pub lowered : (image number : ℕ) → owed image number 2 → later image number 2 ⊎ (sets_state image number 0 o ≡ true)
  pub new : (image number state : ℕ) → sets_state image number state o ≡ true → state ≢ 0 → later image number state
  pub gone : (image number : ℕ) (h : HeaderView) → removes_object image number o ≡ true → headers image ≡ Some h
      → later image number 2
  pub free : (image number state : ℕ) → takes_snap image o ≡ true → owed image number state → ⊥
