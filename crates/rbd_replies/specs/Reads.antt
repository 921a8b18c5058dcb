-- What a read shows: piece by piece the flat view's bytes, each at the place where it was read.
use Rattle.std.specs.Prelude.{◌≡◌, ℕ, true, List, [], ◌∷◌, ◌++◌, map, Option, Some}
use Rattle.rbd_flat.specs.Flat.{id_of, image_at}
use Rattle.rbd_flat.specs.Read.{view_at}
use Rattle.rbd_header.specs.Header.{view_of}
use Rattle.rbd_header.specs.declared.view.View.{View}
use Rattle.rbd_kinds.specs.Extents.{fits}
use Rattle.rbd_kinds.specs.declared.header.HeaderView.{HeaderView}
use Rattle.rbd_kinds.specs.declared.layout.Extent.{Extent}
use Rattle.rbd_layout.specs.Pieces.{pieces_of}
use Rattle.rbd_layout.specs.declared.types.Piece.{Piece}
use Rattle.rbd_meaning.specs.Arrange.{bytes_of_extent}
use Rattle.rbd_meaning.specs.Reads.{IsShown}
use Rattle.rbd_stands.specs.Reading.{TellsFlatImage, bytes_at_parts}
use Rattle.rbd_world.specs.Run.{step_of}
use Rattle.rbd_replies.specs.Places.{LooksAt, Placed, flat_at}

-- these are the bytes of the piece in the flat image's view at this place
pub record TellsFlatPiece (image : ℕ) (snap : Option ℕ) (piece : Piece) (bytes : List ℕ) (p : Placed) : Type 0 where
  pub flat : List ℕ
  pub is : view_at (image_at (flat_at p) image) snap ≡ Some flat
  pub same : bytes ≡ bytes_at_parts piece.parts flat

-- The piece was read at these places, of this image at this view, and showed these bytes. They are
-- the flat image's at the first place, where the image's own object was read.
pub record IsPieceAt (image : ℕ) (snap : Option ℕ) (piece : Piece) (bytes : List ℕ) (places : List Placed)
    : Type 0 where
  pub own : Placed
  pub above : List Placed
  pub are : places ≡ own ∷ above
  pub shown : IsShown own.done.site image snap piece (map (λ (p : Placed). step_of p.done) places)
  pub shows : bytes ≡ shown.bytes
  pub tells : TellsFlatPiece image snap piece bytes own

-- the first piece was read, and its bytes stand first; and so on with the others
pub record ReadsFirst (AreOthers : (bytes : List ℕ) → List Placed → Type 0) (image : ℕ) (snap : Option ℕ)
    (piece : Piece) (bytes : List ℕ) (places : List Placed) : Type 0 where
  pub reading : List Placed
  pub others : List Placed
  pub are : places ≡ reading ++ others
  pub front : List ℕ
  pub rest : List ℕ
  pub bytes_are : bytes ≡ front ++ rest
  pub is_first : IsPieceAt image snap piece front reading
  pub are_others : AreOthers rest others

-- so it is with each piece, and these are their bytes, one after another
abbrev pub ArePiecesAt : (image : ℕ) → (snap : Option ℕ) → List Piece → (bytes : List ℕ) → List Placed → Type 0
ArePiecesAt image snap [] bytes places = (bytes ≡ []) × (places ≡ [])
ArePiecesAt image snap (piece ∷ pieces) bytes places =
    ReadsFirst (ArePiecesAt image snap pieces) image snap piece bytes places

-- However often it began again, its last pass found the image by its name, looked at the header,
-- which tells the flat image there, read each piece of the extent by the layout of that header, and
-- looked again: the header that it was told then had the generation of the first. The extent lies
-- within the view, and the reply's bytes are those of the pieces.
pub record ShowsBytes (name : List ℕ) (snap : Option (List ℕ)) (e : Extent) (bytes : List ℕ)
    (places : List Placed) : Type 0 where
  pub earlier : List Placed
  pub found : Placed
  pub first : Placed
  pub reads : List Placed
  pub closing : Placed
  pub are : places ≡ earlier ++ (found ∷ first ∷ (reads ++ closing ∷ []))
  pub image : ℕ
  pub named : id_of (flat_at found) name ≡ Some image
  pub header : HeaderView
  pub looked : LooksAt image header first
  pub tells : TellsFlatImage header (image_at (flat_at first) image)
  pub again : HeaderView
  pub looked_again : LooksAt image again closing
  pub tells_again : TellsFlatImage again (image_at (flat_at closing) image)
  pub generation : again.generation ≡ header.generation
  pub view : View
  pub viewed : view_of header snap ≡ Some view
  pub within : fits e view.size ≡ true
  pub read : List ℕ
  pub pieces : ArePiecesAt image view.snap (pieces_of header.layout e) read reads
  pub shows : bytes ≡ bytes_of_extent header.layout e read
