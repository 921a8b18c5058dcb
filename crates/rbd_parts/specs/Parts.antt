-- Parts of an object, each some bytes that lie together, and what is read of them and done to them.
use Rattle.std.specs.Prelude.{◌≡◌, ℕ, ◌+◌, ◌-◌, ◌≤◌, max, map, All, List, [], ◌∷◌, ◌++◌, take, drop, Some, slice_get}
use Rattle.rbd_kinds.specs.declared.layout.Part.{Part}
use Rattle.rbd_parts.specs.Contents.{window, overwritten, zeroed}
use Rattle.rbd_parts.specs.declared.parts.TheConstants.{LARGEST_OBJECT}

-- each part ends within a length
abbrev pub EndWithin : (len : ℕ) → List Part → Type 0
EndWithin len parts = (k : ℕ) (p : Part) → slice_get parts k ≡ Some p → p.offset + p.len ≤ len

-- each part ends within the largest object
abbrev pub AreWithin : List Part → Type 0
AreWithin = EndWithin LARGEST_OBJECT

-- where the part that ends last ends, 0 where there is none
abbrev pub last_end : List Part → ℕ
last_end [] = 0
last_end (p ∷ parts) = max (p.offset + p.len) (last_end parts)

-- the bytes of the parts, one part after another
abbrev pub parts_of : List Part → (bytes : List ℕ) → List ℕ
parts_of [] bytes = []
parts_of (p ∷ parts) bytes = window bytes p.offset p.len ++ parts_of parts bytes

-- a head with the bytes put into the parts, one part after another
abbrev pub parts_written : List Part → (bytes head : List ℕ) → List ℕ
parts_written [] bytes head = head
parts_written (p ∷ parts) bytes head =
    parts_written parts (drop p.len bytes) (overwritten head p.offset (take p.len bytes))

-- a head with the parts zeroed
abbrev pub parts_zeroed : List Part → (head : List ℕ) → List ℕ
parts_zeroed [] head = head
parts_zeroed (p ∷ parts) head = parts_zeroed parts (zeroed head p.offset p.len)

-- ---- parts of bytes that begin at the image byte `from`

-- the part as it lies in them
abbrev pub shifted : (from : ℕ) → Part → Part
shifted from p = record p { offset = p.at - from }

-- the parts begin at `from` or behind it, and end within `len` bytes of it
abbrev pub AreBehind : (from : ℕ) → List Part → Type 0
AreBehind from parts = All (λ p. from ≤ p.at) parts

abbrev pub EndBefore : (from len : ℕ) → List Part → Type 0
EndBefore from len parts = All (λ p. p.at + p.len ≤ from + len) parts

-- those of the bytes that the parts have, one part after another
abbrev pub bytes_for : (parts : List Part) → (from : ℕ) → (bytes : List ℕ) → List ℕ
bytes_for parts from bytes = parts_of (map (shifted from) parts) bytes
