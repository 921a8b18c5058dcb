-- What changes that are done did: their effects, in order, in the one history.
use Rattle.std.specs.Prelude.{◌≡◌, ℕ, true, List, [], ◌∷◌, Some, None}
use Rattle.rbd_flat.specs.Flat.{FlatImage, FlatSnap, id_of, image_at}
use Rattle.rbd_flat.specs.declared.effect.Effect.TheVariants as effect
use Rattle.rbd_kinds.specs.declared.header.HeaderView.{HeaderView}
use Rattle.rbd_kinds.specs.declared.header.Role.TheVariants.{Plain}
use Rattle.rbd_kinds.specs.Extents.{fits}
use Rattle.rbd_layout.specs.Pieces.{pieces_of}
use Rattle.rbd_meaning.specs.Range.{extent_at}
use Rattle.rbd_stands.specs.Reading.{TellsFlatImage, flat_snap_named}
use Rattle.rbd_stands.specs.Writing.{piece_effects}
use Rattle.rbd_replies.specs.Places.{LooksAt, Placed, effects_of, flat_at}

-- The name was free, and leads now to a new image of zeros.
pub record Creates (name : List ℕ) (size : ℕ) (places : List Placed) : Type 0 where
  pub first : Placed
  pub mapped : Placed
  pub second : Placed
  pub are : places ≡ first ∷ mapped ∷ second ∷ []
  pub image : ℕ
  pub free : id_of (flat_at first) name ≡ None
  pub effects : effects_of places ≡ effect.Name name image ∷ effect.Create image size Plain ∷ []

-- The way of a change: the image that the name had at one place, and the header that its look under
-- the lock was told, which tells the flat image at the place of that look.
pub record FindsImage (name : List ℕ) (places : List Placed) : Type 0 where
  pub found : Placed
  pub first : Placed
  pub own : Placed
  pub rest : List Placed
  pub are : places ≡ found ∷ first ∷ own ∷ rest
  pub image : ℕ
  pub named : id_of (flat_at found) name ≡ Some image
  pub header : HeaderView
  pub looked : LooksAt image header own
  pub tells : TellsFlatImage header (image_at (flat_at own) image)

-- Each piece was written, one after another, and nothing else was done: the object of each has the
-- bytes that go there. They lie within the size that the look under the lock told.
pub record Writes (name : List ℕ) (at : ℕ) (bytes : List ℕ) (places : List Placed) : Type 0 where
  pub finds : FindsImage name places
  pub within : fits (extent_at at bytes) finds.header.size ≡ true
  pub effects : effects_of places ≡ piece_effects finds.image at bytes
      (pieces_of finds.header.layout (extent_at at bytes))

-- A snapshot was taken, and nothing else was done. At the look under the lock the flat image had
-- none of the name.
pub record TakesSnap (name snap : List ℕ) (places : List Placed) : Type 0 where
  pub finds : FindsImage name places
  pub flat : FlatImage
  pub is : image_at (flat_at finds.own) finds.image ≡ Some flat
  pub free : flat_snap_named flat.snaps snap ≡ None
  pub taken : ℕ
  pub effects : effects_of places ≡ effect.Snap finds.image taken snap ∷ []

-- The snapshot that the flat image had under the name at the look under the lock was removed, and
-- nothing else was done.
pub record RemovesSnap (name snap : List ℕ) (places : List Placed) : Type 0 where
  pub finds : FindsImage name places
  pub flat : FlatImage
  pub is : image_at (flat_at finds.own) finds.image ≡ Some flat
  pub gone : FlatSnap
  pub listed : flat_snap_named flat.snaps snap ≡ Some gone
  pub effects : effects_of places ≡ effect.Unsnap finds.image gone.id ∷ []

-- The name of an image became another, which was free, and nothing else was done.
pub record Renames (from to : List ℕ) (places : List Placed) : Type 0 where
  pub at_place : Placed
  pub are : places ≡ at_place ∷ []
  pub image : ℕ
  pub named : id_of (flat_at at_place) from ≡ Some image
  pub free : id_of (flat_at at_place) to ≡ None
  pub effects : effects_of places ≡ effect.Rename from to ∷ []
