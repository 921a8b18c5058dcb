-- What listings show: names, a header, snapshots, and how many objects are in use, as the flat site
-- has them at a place.
use Rattle.std.specs.Prelude.{◌≡◌, ℕ, List, [], ◌∷◌, length, Some, None}
use Rattle.std.specs.FinMap as finmap
use Rattle.rbd_flat.specs.Flat.{FlatImage, id_of, image_at}
use Rattle.rbd_kinds.specs.declared.answer.Answer.TheVariants as answer
use Rattle.rbd_kinds.specs.declared.header.HeaderView.{HeaderView}
use Rattle.rbd_kinds.specs.declared.header.SnapView.{SnapView}
use Rattle.rbd_kinds.specs.declared.map_op.MapOp.TheVariants as states
use Rattle.rbd_kinds.specs.declared.operation.Op.TheVariants as op
use Rattle.rbd_kinds.specs.Striping.{IsObjectCount}
use Rattle.rbd_meaning.specs.Listings.{used_among}
use Rattle.rbd_stands.specs.Reading.{IsToldBy, TellsFlatImage}
use Rattle.rbd_replies.specs.Places.{LooksAt, Placed, flat_at}

-- all names of the flat site at one place
pub record ListsNames (names : List (List ℕ)) (places : List Placed) : Type 0 where
  pub at_place : Placed
  pub are : places ≡ at_place ∷ []
  pub names_are : names ≡ finmap.keys (flat_at at_place).names

-- At one place the name leads to the image, and at the next a look is told the image's header: the
-- size, the role and the snapshots are those of the flat image.
pub record ShowsImage (name : List ℕ) (h : HeaderView) (places : List Placed) : Type 0 where
  pub found : Placed
  pub look : Placed
  pub are : places ≡ found ∷ look ∷ []
  pub image : ℕ
  pub named : id_of (flat_at found) name ≡ Some image
  pub looked : LooksAt image h look
  pub tells : TellsFlatImage h (image_at (flat_at look) image)

pub record ShowsSnaps (name : List ℕ) (snaps : List SnapView) (places : List Placed) : Type 0 where
  pub header : HeaderView
  pub shows : ShowsImage name header places
  pub snaps_are : snaps ≡ header.snaps

-- At one place the name leads to the image, and at the next a look is told its header: so many
-- objects the flat image's size has. Behind that the head's map is told: so many of these objects
-- are in use by its states.
pub record ShowsUsedAt (name : List ℕ) (used of : ℕ) (places : List Placed) : Type 0 where
  pub found : Placed
  pub look : Placed
  pub told : Placed
  pub are : places ≡ found ∷ look ∷ told ∷ []
  pub image : ℕ
  pub named : id_of (flat_at found) name ≡ Some image
  pub header : HeaderView
  pub looked : LooksAt image header look
  pub flat : FlatImage
  pub is : image_at (flat_at look) image ≡ Some flat
  pub tells : IsToldBy header flat
  pub of_is : IsObjectCount header.layout (length flat.bytes) of
  pub bits : List ℕ
  pub asks : told.done.op ≡ op.Map image (states.Get None)
  pub answered : told.done.answer ≡ answer.Bits bits
  pub used_is : used ≡ used_among of bits
