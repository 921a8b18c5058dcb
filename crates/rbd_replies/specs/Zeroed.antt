-- What a `discard` and a `resize` that are done did: which bytes became zeros, in order.
use Rattle.std.specs.Prelude.{◌≡◌, ℕ, nat_le, true, List, [], ◌∷◌, ◌++◌, map, if◌then◌else◌}
use Rattle.rbd_flat.specs.declared.effect.Effect.{Effect}
use Rattle.rbd_flat.specs.declared.effect.Effect.TheVariants as effect
use Rattle.rbd_kinds.specs.declared.header.HeaderView.{HeaderView}
use Rattle.rbd_kinds.specs.declared.layout.Extent.{Extent}
use Rattle.rbd_kinds.specs.Extents.{fits}
use Rattle.rbd_layout.specs.Pieces.{pieces_of}
use Rattle.rbd_layout.specs.declared.types.Piece.{Piece}
use Rattle.rbd_stands.specs.Condition.{extents_of}
use Rattle.rbd_pieces.specs.Shrink.{pieces_from}
use Rattle.rbd_replies.specs.Changed.{FindsImage}
use Rattle.rbd_replies.specs.Places.{Placed, effects_of}

-- the bytes of a piece become zeros, and those of several
abbrev pub zero_effect : (image : ℕ) → Piece → Effect
zero_effect image piece = effect.Zero image (extents_of piece.parts)

abbrev pub zero_effects : (image : ℕ) → List Piece → List Effect
zero_effects image pieces = map (zero_effect image) pieces

-- Each piece of the extent became zeros, one after another, and nothing else was done: its object
-- was removed, was emptied, or has zeros now. The extent lies within the size that the look under
-- the lock told.
pub record Discards (name : List ℕ) (e : Extent) (places : List Placed) : Type 0 where
  pub finds : FindsImage name places
  pub within : fits e finds.header.size ≡ true
  pub effects : effects_of places ≡ zero_effects finds.image (pieces_of finds.header.layout e)

-- what a shrink zeros, by the states of the head's map: pieces of the bytes from the new size on
abbrev pub cut_away : HeaderView → (to : ℕ) → (bits : List ℕ) → List Piece
cut_away h to bits = if nat_le h.size to then [] else pieces_from h to bits

-- The size was set. Where it got smaller, bytes from the new size on became zeros before that;
-- where it grew, nothing was done before.
pub record SetsSize (image : ℕ) (h : HeaderView) (to : ℕ) (effects : List Effect) : Type 0 where
  pub bits : List ℕ
  pub are : effects ≡ zero_effects image (cut_away h to bits) ++ effect.Size image to ∷ []

-- The size was set, from what the flat image had at the look under the lock, and nothing else was
-- done.
pub record Resizes (name : List ℕ) (to : ℕ) (places : List Placed) : Type 0 where
  pub finds : FindsImage name places
  pub sets : SetsSize finds.image finds.header to (effects_of places)
