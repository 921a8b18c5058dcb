-- The views of an image: its head (None), and each snapshot that its header lists (Some id).
use Rattle.std.specs.Prelude.{◌≡◌, ℕ, List, [], Option, Some, None, option_map, unwrap_or}
use Rattle.rbd_kinds.specs.declared.header.HeaderView.{HeaderView}
use Rattle.rbd_kinds.specs.declared.header.ParentLink.{ParentLink}
use Rattle.rbd_kinds.specs.declared.header.SnapView.{SnapView}
use Rattle.rbd_header.specs.Header.{snap_in}
use Rattle.rbd_flat.specs.Flat.{FlatImage}
use Rattle.rbd_flat.specs.Read.{image_view}

-- what a header tells of a view: its size in bytes, and its parent
pub record Shape : Type 0 where
  pub size : ℕ
  pub parent : Option ParentLink

abbrev pub shape_of_head : HeaderView → Shape
shape_of_head h = record { size = h.size; parent = h.parent }

abbrev pub shape_of_snap : SnapView → Shape
shape_of_snap s = record { size = s.size; parent = s.parent }

abbrev pub shape_of : HeaderView → Option ℕ → Option Shape
shape_of h None = Some (shape_of_head h)
shape_of h (Some t) = option_map shape_of_snap (snap_in h.snaps t)

-- it holds of the head, and of each snapshot that is listed
pub record EachView (h : HeaderView) (P : Option ℕ → Shape → Type 0) : Type 0 where
  pub head : P None (shape_of_head h)
  pub snap : (t : ℕ) (s : SnapView) → snap_in h.snaps t ≡ Some s → P (Some t) (shape_of_snap s)

-- the bytes of a view in the flat image, none where it has no such snapshot
abbrev pub flat_bytes : FlatImage → Option ℕ → List ℕ
flat_bytes i view = unwrap_or (image_view i view) []
