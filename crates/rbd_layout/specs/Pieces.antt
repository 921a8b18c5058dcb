-- Which bytes of an extent lie in which object (Ceph: RBD striping).
use Rattle.std.specs.Prelude.{◌≡◌, ℕ, ◌+◌, ◌*◌, ◌/◌, ◌<◌, ◌≤◌, ◌==◌, ◌↔◌, nat_lt, Bool, if◌then◌else◌, List, [], ◌∷◌, length, map, filter, All, AllPairs, Any}
use Rattle.std.specs.List.{range_with_len, flat_map}
use Rattle.rbd_kinds.specs.declared.layout.Layout.{Layout}
use Rattle.rbd_kinds.specs.declared.layout.Extent.{Extent}
use Rattle.rbd_kinds.specs.declared.layout.Part.{Part}
use Rattle.rbd_kinds.specs.Striping.{object_of, offset_of, byte_at}
use Rattle.rbd_layout.specs.declared.types.Piece.{Piece}

-- an image byte is one of an extent's
abbrev pub IsWithin : Extent → ℕ → Type 0
IsWithin e x = (e.at ≤ x) × (x < e.at + e.len)

-- the image bytes of an extent that lie in an object, ascending
abbrev pub places_in : Layout → Extent → (object : ℕ) → List ℕ
places_in l e object = filter (λ x. object_of l x == object) (range_with_len e.at e.len)

-- the image bytes of a part, ascending
abbrev pub places_of : Part → List ℕ
places_of p = range_with_len p.at p.len

-- an image byte is one of a part's, and one of a piece's
abbrev pub IsIn : ℕ → Part → Type 0
IsIn x p = (p.at ≤ x) × (x < p.at + p.len)

abbrev pub IsInPiece : ℕ → Piece → Type 0
IsInPiece x piece = Any (IsIn x) piece.parts

-- The bytes of a part lie together in the object, as they do in the image.
pub record IsPart (l : Layout) (object : ℕ) (p : Part) : Type 0 where
  pub some : 0 < p.len
  pub within : p.offset + p.len ≤ l.object
  pub lies : (k : ℕ) → k < p.len → (object_of l (p.at + k) ≡ object) × (offset_of l (p.at + k) ≡ p.offset + k)

-- The parts are the extent's bytes in an object, each once and in order, and parts that touch are
-- joined.
pub record IsPartsOf (l : Layout) (e : Extent) (object : ℕ) (parts : List Part) : Type 0 where
  pub each : All (IsPart l object) parts
  pub cover : flat_map places_of parts ≡ places_in l e object
  pub apart : AllPairs (λ p q. p.at + p.len < q.at) parts

-- One piece for each object that the extent touches, in the order of their numbers.
pub record IsPieces (l : Layout) (e : Extent) (pieces : List Piece) : Type 0 where
  pub parts : All (λ p. IsPartsOf l e p.object p.parts) pieces
  pub touched : All (λ p. 0 < length p.parts) pieces
  pub ascending : AllPairs (λ p q. p.object < q.object) pieces
  pub whole : (x : ℕ) → IsWithin e x → Any (λ p. p.object ≡ object_of l x) pieces

-- ---- the one list of pieces

-- a place, and the parts behind it: it lengthens the first where the two touch
abbrev pub part_at : Layout → (x len : ℕ) → Part
part_at l x len = record { offset = offset_of l x; at = x; len = len }

abbrev pub with_place : Layout → (x : ℕ) → List Part → List Part
with_place l x [] = part_at l x 1 ∷ []
with_place l x (p ∷ parts) = if x + 1 == p.at then part_at l x (p.len + 1) ∷ parts else part_at l x 1 ∷ p ∷ parts

-- the parts that places of one object make, ascending
abbrev pub parts_at : Layout → List ℕ → List Part
parts_at l [] = []
parts_at l (x ∷ places) = with_place l x (parts_at l places)

abbrev pub piece_in : Layout → Extent → (object : ℕ) → Piece
piece_in l e object = record { object = object; parts = parts_at l (places_in l e object) }

abbrev pub is_touched : Piece → Bool
is_touched p = nat_lt 0 (length p.parts)

-- the pieces of so many objects, from one on: one for each that the extent touches
abbrev pub pieces_among : Layout → Extent → (first many : ℕ) → List Piece
pieces_among l e first many = filter is_touched (map (piece_in l e) (range_with_len first many))

-- One piece for each object that the extent touches. No byte has an object whose number is above
-- its own.
abbrev pub pieces_of : Layout → Extent → List Piece
pieces_of l e = pieces_among l e 0 (e.at + e.len)

-- The first object of the set in which the extent begins: it touches none before that.
abbrev pub first_object : Layout → Extent → ℕ
first_object l e = object_of l e.at / l.count * l.count

-- How many bytes of an object lie below an image byte: they are its first ones.
pub record IsHeld (l : Layout) (object below held : ℕ) : Type 0 where
  pub within : held ≤ l.object
  pub each : (offset : ℕ) → offset < l.object → (offset < held) ↔ (byte_at l object offset < below)
