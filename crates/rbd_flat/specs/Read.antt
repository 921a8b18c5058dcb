-- What a read of the flat-copy machine shows.
use Rattle.std.specs.Prelude.{◌≡◌, ℕ, false, if◌then◌else◌, List, length, take, drop, Option, Some, None, IsSome, Result, Ok, Err}
use Rattle.std.specs.Option.{option_map}
use Rattle.rbd_kinds.specs.declared.layout.Extent.{Extent}
use Rattle.rbd_kinds.specs.Extents.{fits}
use Rattle.rbd_flat.specs.declared.fault.FlatFault.{FlatFault}
use Rattle.rbd_flat.specs.declared.fault.FlatFault.TheVariants.{NoImage, NoSnap, BadRange}
use Rattle.rbd_flat.specs.Flat.{Flat, FlatImage, image_at, snap_in, snap_of}

-- the bytes at the extent
abbrev pub bytes_in : List ℕ → Extent → List ℕ
bytes_in bytes e = take e.len (drop e.at bytes)

-- the bytes that an image shows: its own, or those of a snapshot that it lists
abbrev pub image_view : FlatImage → Option ℕ → Option (List ℕ)
image_view i None = Some i.bytes
image_view i (Some t) = option_map (λ s. s.bytes) (snap_in i.snaps t)

abbrev pub view_at : Option FlatImage → Option ℕ → Option (List ℕ)
view_at None snap = None
view_at (Some i) snap = image_view i snap

-- the read of a view, and of an image
abbrev pub read_view : Option (List ℕ) → Extent → Result (List ℕ) FlatFault
read_view None e = Err NoSnap
read_view (Some bytes) e = if fits e (length bytes) then Ok (bytes_in bytes e) else Err BadRange

abbrev pub read_image : Option FlatImage → Option ℕ → Extent → Result (List ℕ) FlatFault
read_image None snap e = Err NoImage
read_image (Some i) snap e = read_view (image_view i snap) e

-- what a read shows: no image comes first, then no snapshot, then an extent that doesn't fit
abbrev pub read_of : Flat → (image : ℕ) → (snap : Option ℕ) → Extent → Result (List ℕ) FlatFault
read_of f image snap e = read_image (image_at f image) snap e

-- a snapshot is asked for, of an image that doesn't list it
abbrev pub IsUnlisted : Flat → (image : ℕ) → (snap : Option ℕ) → Type 0
IsUnlisted f image snap = IsSome (image_at f image)
    × ((t : ℕ) × (snap ≡ Some t) × (snap_of (image_at f image) t ≡ None))

-- the extent doesn't fit into the bytes that are shown
abbrev pub IsOutsideBytes : Flat → (image : ℕ) → (snap : Option ℕ) → Extent → Type 0
IsOutsideBytes f image snap e = (bytes : List ℕ) × (view_at (image_at f image) snap ≡ Some bytes)
    × (fits e (length bytes) ≡ false)
