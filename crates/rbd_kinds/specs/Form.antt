-- The form that each header of a site keeps.
use Rattle.std.specs.Prelude.{◌≡◌, ℕ, ◌<◌, ◌≤◌, ◌^◌, List, [], ◌∷◌, length, Option, Some, None, IfSome, slice_get}
use Rattle.rbd_kinds.specs.declared.header.HeaderView.{HeaderView}
use Rattle.rbd_kinds.specs.declared.header.ParentLink.{ParentLink}
use Rattle.rbd_kinds.specs.declared.header.SnapView.{SnapView}
use Rattle.rbd_kinds.specs.declared.layout.Layout.{Layout}
use Rattle.rbd_kinds.specs.Striping.{IsLayout, object_of}

-- A size has at most 2^20 objects: the bytes below it lie in the first 2^20.
abbrev pub HasFewObjects : Layout → (size : ℕ) → Type 0
HasFewObjects layout size = (x : ℕ) → x < size → object_of layout x < 2 ^ 20

abbrev pub IsOverlapWithin : (size : ℕ) → Option ParentLink → Type 0
IsOverlapWithin size parent = IfSome parent (λ link. link.overlap ≤ size)

-- ids rise from a bound on, up to another
abbrev pub RiseFrom : (below most : ℕ) → List SnapView → Type 0
RiseFrom below most [] = below ≤ most
RiseFrom below most (s ∷ snaps) = (below < s.id) × RiseFrom s.id most snaps

-- ids rise, up to a bound
abbrev pub AreRising : (most : ℕ) → List SnapView → Type 0
AreRising most [] = Unit {0}
AreRising most (s ∷ snaps) = RiseFrom s.id most snaps

pub record IsSnapInForm (layout : Layout) (s : SnapView) : Type 0 where
  pub objects : HasFewObjects layout s.size
  pub overlap : IsOverlapWithin s.size s.parent

pub record IsHeaderInForm (h : HeaderView) : Type 0 where
  pub layout : IsLayout h.layout
  pub objects : HasFewObjects h.layout h.size
  pub born : HasFewObjects h.layout h.born
  pub overlap : IsOverlapWithin h.size h.parent
  pub snaps : (k : ℕ) (s : SnapView) → slice_get h.snaps k ≡ Some s → IsSnapInForm h.layout s
  pub few : length h.snaps ≤ 256
  pub rising : AreRising h.snap_seq h.snaps
  pub depth : h.depth ≤ 16

-- as a header is made: it has no snapshot, no owner, and wasn't changed yet
pub record IsNewHeader (h : HeaderView) : Type 0 where
  pub form : IsHeaderInForm h
  pub generation : h.generation ≡ 0
  pub seq : h.snap_seq ≡ 0
  pub snaps : h.snaps ≡ []
  pub owner : h.owner ≡ None
