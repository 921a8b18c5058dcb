-- What one step of the flat-copy machine leaves: at one byte, of one size, one role and one
-- snapshot.
use Rattle.std.specs.Prelude.{ℕ, ◌+◌, ◌-◌, ◌==◌, nat_lt, nat_le, Bool, true, false, ◌&&◌, if◌then◌else◌, List, [], ◌∷◌, length, drop, slice_index, Option, Some, None, is_some}
use Rattle.std.specs.List.{list_any}
use Rattle.std.specs.Option.{option_map, option_or}
use Rattle.rbd_kinds.specs.declared.header.Role.{Role}
use Rattle.rbd_kinds.specs.declared.header.Role.TheVariants.{Plain}
use Rattle.rbd_kinds.specs.declared.header.SnapStatus.TheVariants.{Unprotected}
use Rattle.rbd_kinds.specs.declared.layout.Extent.{Extent}
use Rattle.rbd_flat.specs.declared.effect.Effect.{Effect}
use Rattle.rbd_flat.specs.declared.effect.Effect.TheVariants as effect
use Rattle.rbd_flat.specs.Flat.{Flat, FlatImage, FlatSnap, image_at, snap_of}

-- whether the place lies in the extent, and in one of several
abbrev pub covers : Extent → ℕ → Bool
covers e x = nat_le e.at x && nat_lt x (e.at + e.len)

abbrev pub covered : List Extent → ℕ → Bool
covered at x = list_any (λ e. covers e x) at

-- The byte at x, `old` before, once the bytes went to the extents in order. The last extent that
-- has x tells it.
abbrev pub painted_at : List Extent → (new : List ℕ) → (old x : ℕ) → ℕ
painted_at [] new old x = old
painted_at (e ∷ at) new old x =
    painted_at at (drop e.len new) (if covers e x then slice_index new (x - e.at) else old) x

-- the same, where the places are listed one by one
abbrev pub painted_byte : (places new : List ℕ) → (old x : ℕ) → ℕ
painted_byte [] new old x = old
painted_byte (p ∷ places) new old x = painted_byte places (drop 1 new) (if x == p then slice_index new 0 else old) x

-- the size of an image in bytes, 0 where there is none
abbrev pub size_in : Option FlatImage → ℕ
size_in None = 0
size_in (Some i) = length i.bytes

abbrev pub size_at : Flat → ℕ → ℕ
size_at f i = size_in (image_at f i)

-- the byte at x, 0 where there is no image or x is past the end
abbrev pub byte_in : Option FlatImage → ℕ → ℕ
byte_in None x = 0
byte_in (Some i) x = slice_index i.bytes x

abbrev pub flat_byte : Flat → (image x : ℕ) → ℕ
flat_byte f i x = byte_in (image_at f i) x

-- the role of an image
abbrev pub role_at : Flat → ℕ → Option Role
role_at f i = option_map (λ i. i.role) (image_at f i)

-- the snapshot of an image
abbrev pub snap_at : Flat → (image snap : ℕ) → Option FlatSnap
snap_at f i t = snap_of (image_at f i) t

-- the byte and the size of a clone, which stay where the snapshot isn't there
abbrev pub snap_byte : Option FlatSnap → (old x : ℕ) → ℕ
snap_byte None old x = old
snap_byte (Some s) old x = slice_index s.bytes x

abbrev pub snap_size : Option FlatSnap → (old : ℕ) → ℕ
snap_size None old = old
snap_size (Some s) old = length s.bytes

-- the byte at place x of image i after the effect
abbrev pub byte_after : Effect → Flat → (i x : ℕ) → ℕ
byte_after (effect.Create image size role) f i x = if i == image then 0 else flat_byte f i x
byte_after (effect.Clone image parent snap) f i x = if i == image then snap_byte (snap_at f parent snap)
    (flat_byte f i x) x else flat_byte f i x
byte_after (effect.Piece image at bytes) f i x = if (i == image) && nat_lt x (size_at f i)
    then painted_at at bytes (flat_byte f i x) x else flat_byte f i x
byte_after (effect.Zero image at) f i x = if (i == image) && covered at x then 0 else flat_byte f i x
byte_after (effect.Size image size) f i x = if (i == image) && nat_le size x then 0 else flat_byte f i x
byte_after (effect.Gone image) f i x = if i == image then 0 else flat_byte f i x
byte_after _ f i x = flat_byte f i x

-- the size of image i after the effect
abbrev pub size_after : Effect → Flat → (i : ℕ) → ℕ
size_after (effect.Create image size role) f i = if i == image then size else size_at f i
size_after (effect.Clone image parent snap) f i = if i == image then snap_size (snap_at f parent snap) (size_at f i)
    else size_at f i
size_after (effect.Size image size) f i = if (i == image) && is_some (image_at f i) then size else size_at f i
size_after (effect.Gone image) f i = if i == image then 0 else size_at f i
size_after _ f i = size_at f i

-- the role of image i after the effect
abbrev pub role_after : Effect → Flat → (i : ℕ) → Option Role
role_after (effect.Create image size role) f i = if i == image then Some role else role_at f i
role_after (effect.Clone image parent snap) f i = if (i == image) && is_some (snap_at f parent snap) then Some Plain
    else role_at f i
role_after (effect.Role image role) f i = if (i == image) && is_some (image_at f i) then Some role else role_at f i
role_after (effect.Gone image) f i = if i == image then None else role_at f i
role_after _ f i = role_at f i

-- the snapshot that is taken of an image now
abbrev pub taken_of : Option FlatImage → (snap : ℕ) → (name : List ℕ) → Option FlatSnap
taken_of image snap name = option_map {T = FlatImage} {U = FlatSnap}
    (λ i. record { id = snap; name = name; bytes = i.bytes; status = Unprotected }) image

-- snapshot t of image i after the effect
abbrev pub snap_after : Effect → Flat → (i t : ℕ) → Option FlatSnap
snap_after (effect.Create image size role) f i t = if i == image then None else snap_at f i t
snap_after (effect.Clone image parent snap) f i t = if (i == image) && is_some (snap_at f parent snap) then None
    else snap_at f i t
snap_after (effect.Snap image snap name) f i t = if (i == image) && (t == snap) then option_or (snap_at f i t)
    (taken_of (image_at f i) snap name) else snap_at f i t
snap_after (effect.Unsnap image snap) f i t = if (i == image) && (t == snap) then None else snap_at f i t
snap_after (effect.Status image snap status) f i t = if (i == image) && (t == snap)
    then option_map {T = FlatSnap} {U = FlatSnap} (λ s. record s { status = status }) (snap_at f i t) else snap_at f i t
snap_after (effect.Gone image) f i t = if i == image then None else snap_at f i t
snap_after _ f i t = snap_at f i t

-- the image that the effect is about
abbrev pub image_of : Effect → Option ℕ
image_of (effect.Create image size role) = Some image
image_of (effect.Clone image parent snap) = Some image
image_of (effect.Piece image at bytes) = Some image
image_of (effect.Zero image at) = Some image
image_of (effect.Size image size) = Some image
image_of (effect.Snap image snap name) = Some image
image_of (effect.Unsnap image snap) = Some image
image_of (effect.Status image snap status) = Some image
image_of (effect.Role image role) = Some image
image_of (effect.Gone image) = Some image
image_of _ = None

-- whether the effect is one on names, or on links
abbrev pub is_on_names : Effect → Bool
is_on_names (effect.Name name image) = true
is_on_names (effect.NameFree image) = true
is_on_names (effect.Rename from to) = true
is_on_names _ = false

abbrev pub is_on_links : Effect → Bool
is_on_links (effect.Link parent snap child) = true
is_on_links (effect.Unlink parent snap child) = true
is_on_links _ = false
