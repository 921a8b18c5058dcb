-- What a `snap rollback` that is done did: the size was set to the snapshot's, and then each object
-- got the bytes that the flat snapshot shows.
use Rattle.std.specs.Prelude.{◌≡◌, ℕ, List, [], ◌∷◌, ◌++◌, length, Some}
use Rattle.rbd_flat.specs.Flat.{FlatImage, FlatSnap, image_at}
use Rattle.rbd_flat.specs.declared.effect.Effect.{Effect}
use Rattle.rbd_flat.specs.declared.effect.Effect.TheVariants as effect
use Rattle.rbd_layout.specs.Pieces.{pieces_of}
use Rattle.rbd_layout.specs.declared.types.Piece.{Piece}
use Rattle.rbd_stands.specs.Condition.{extents_of}
use Rattle.rbd_stands.specs.Reading.{flat_snap_named}
use Rattle.rbd_pieces.specs.Full.{cut_bytes}
use Rattle.rbd_replies.specs.Changed.{FindsImage}
use Rattle.rbd_replies.specs.Places.{Placed, effects_of, flat_at}
use Rattle.rbd_replies.specs.Reads.{IsPieceAt}
use Rattle.rbd_replies.specs.Zeroed.{SetsSize, zero_effect}

-- A piece gets bytes up to the last that isn't zero, and behind them zeros.
abbrev pub replacing_effect : (image : ℕ) → Piece → (left : List ℕ) → Effect
replacing_effect image piece [] = zero_effect image piece
replacing_effect image piece (byte ∷ left) = effect.Piece image (extents_of piece.parts) (byte ∷ left)

abbrev pub replace_effect : (image : ℕ) → Piece → (bytes : List ℕ) → Effect
replace_effect image piece bytes = replacing_effect image piece (cut_bytes bytes)

-- A piece was read at the snapshot, and its bytes are the flat snapshot's there. The head got these
-- bytes; and so on with the other pieces.
pub record RestoresFirst (AreOthers : List Placed → Type 0) (image snap : ℕ) (piece : Piece)
    (places : List Placed) : Type 0 where
  pub reading : List Placed
  pub replaced : List Placed
  pub others : List Placed
  pub are : places ≡ reading ++ (replaced ++ others)
  pub bytes : List ℕ
  pub shown : IsPieceAt image (Some snap) piece bytes reading
  pub silent : effects_of reading ≡ []
  pub effects : effects_of replaced ≡ replace_effect image piece bytes ∷ []
  pub are_others : AreOthers others

-- so it is with each piece, one after another
abbrev pub RestoresAll : (image snap : ℕ) → List Piece → List Placed → Type 0
RestoresAll image snap [] places = places ≡ []
RestoresAll image snap (piece ∷ pieces) places = RestoresFirst (RestoresAll image snap pieces) image snap piece places

-- The flat image had a snapshot of the name at its look under the lock. The size was set to that of
-- the snapshot, then each object of this size got its bytes, and nothing else was done.
pub record RollsBackTo (name snap : List ℕ) (places : List Placed) : Type 0 where
  pub finds : FindsImage name places
  pub flat : FlatImage
  pub is : image_at (flat_at finds.own) finds.image ≡ Some flat
  pub to : FlatSnap
  pub listed : flat_snap_named flat.snaps snap ≡ Some to
  pub sizing : List Placed
  pub restoring : List Placed
  pub behind : finds.rest ≡ sizing ++ restoring
  pub sets : SetsSize finds.image finds.header (length to.bytes) (effects_of sizing)
  pub restores : RestoresAll finds.image to.id
      (pieces_of finds.header.layout (record { at = 0; len = length to.bytes })) restoring
  pub before : effects_of places ≡ effects_of sizing ++ effects_of restoring
