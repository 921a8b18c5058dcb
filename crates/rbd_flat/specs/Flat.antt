-- The flat-copy machine: its state, and what one step does.
use Rattle.std.specs.Prelude.{ℕ, ◌==◌, not, if◌then◌else◌, List, [], ◌∷◌, ◌++◌, map, drop, replicate, slice_set, slice_index, Option, Some, None}
use Rattle.std.specs.List.{filter, flat_map, range_with_len}
use Rattle.std.specs.Ordering.{nat_cmp, ordering_then}
use Rattle.std.specs.Cmp.Lexicographic.{slice_cmp}
use Rattle.std.specs.declared.cmp.Ordering.{Ordering}
use Rattle.std.specs.FinMap as finmap
use Rattle.std.specs.FinSet as finset
use Rattle.rbd_kinds.specs.declared.header.Role.{Role}
use Rattle.rbd_kinds.specs.declared.header.Role.TheVariants.{Plain}
use Rattle.rbd_kinds.specs.declared.header.SnapStatus.{SnapStatus}
use Rattle.rbd_kinds.specs.declared.header.SnapStatus.TheVariants.{Unprotected}
use Rattle.rbd_kinds.specs.declared.layout.Extent.{Extent}
use Rattle.rbd_flat.specs.declared.effect.Effect.{Effect}
use Rattle.rbd_flat.specs.declared.effect.Effect.TheVariants as effect

-- a flat snapshot: a full copy of the image's bytes
pub record FlatSnap : Type 0 where
  pub id : ℕ
  pub name : List ℕ
  pub bytes : List ℕ
  pub status : SnapStatus

-- a flat image: its bytes, as many as its size, and its snapshots, oldest first
pub record FlatImage : Type 0 where
  pub bytes : List ℕ
  pub snaps : List FlatSnap
  pub role : Role

-- a parent's snapshot, and a child that was cloned of it
pub record Link : Type 0 where
  pub parent : ℕ
  pub snap : ℕ
  pub child : ℕ

abbrev pub link_cmp : Link → Link → Ordering
link_cmp a b = ordering_then (nat_cmp a.parent b.parent)
    (ordering_then (nat_cmp a.snap b.snap) (nat_cmp a.child b.child))

-- A flat site: names to ids, ids to flat images, and links. A name may stand without an image.
pub record Flat : Type 0 where
  pub names : finmap.FinMap (slice_cmp nat_cmp) ℕ
  pub images : finmap.FinMap nat_cmp FlatImage
  pub links : finset.FinSet link_cmp

abbrev pub no_images : Flat
no_images = record { names = finmap.empty; images = finmap.empty; links = finset.empty }

-- the image with an id, and the id of a name
abbrev pub image_at : Flat → ℕ → Option FlatImage
image_at f image = finmap.get f.images image

abbrev pub id_of : Flat → List ℕ → Option ℕ
id_of f name = finmap.get f.names name

-- the first snapshot with an id
abbrev pub snap_in : List FlatSnap → ℕ → Option FlatSnap
snap_in [] t = None
snap_in (s ∷ snaps) t = if s.id == t then Some s else snap_in snaps t

abbrev pub snap_of : Option FlatImage → ℕ → Option FlatSnap
snap_of None t = None
snap_of (Some i) t = snap_in i.snaps t

-- the image places of an extent, ascending, and of several, one after another
abbrev pub places_of_one : Extent → List ℕ
places_of_one e = range_with_len e.at e.len

abbrev pub places_of : List Extent → List ℕ
places_of extents = flat_map places_of_one extents

-- The old bytes with the new ones at the places, in order. A place past the end is passed over, and
-- a place past the new bytes becomes zero.
abbrev pub painted : (places new old : List ℕ) → List ℕ
painted [] new old = old
painted (x ∷ places) new old = painted places (drop 1 new) (slice_set old x (slice_index new 0))

-- cut, or lengthened by zeros
abbrev pub resized : ℕ → List ℕ → List ℕ
resized size bytes = map (slice_index bytes) (range_with_len 0 size)

-- the image with the id is changed, where there is one
abbrev pub changed_image : (FlatImage → FlatImage) → ℕ → Option FlatImage → Flat → Flat
changed_image change image None f = f
changed_image change image (Some i) f = record f { images = finmap.insert f.images image (change i) }

abbrev pub with_image : Flat → ℕ → (FlatImage → FlatImage) → Flat
with_image f image change = changed_image change image (image_at f image) f

abbrev pub renamed : Option ℕ → (from to : List ℕ) → Flat → Flat
renamed None from to f = f
renamed (Some image) from to f = record f { names = finmap.insert (finmap.remove f.names from) to image }

abbrev pub cloned : Option FlatSnap → ℕ → Flat → Flat
cloned None image f = f
cloned (Some s) image f = record f {
  images = finmap.insert f.images image (record {
    bytes = s.bytes;
    snaps = [];
    role = Plain;
  });
}

abbrev pub with_status : ℕ → SnapStatus → FlatSnap → FlatSnap
with_status t status s = if s.id == t then record s { status = status } else s

-- one step of the flat-copy machine: all else stays
abbrev pub after : Flat → Effect → Flat
after f (effect.Name name image) = record f { names = finmap.insert f.names name image }
after f (effect.NameFree image) =
    record f { names = finmap.from_entries (filter (λ e. not (e.1 == image)) (finmap.entries f.names)) }
after f (effect.Rename from to) = renamed (id_of f from) from to f
after f (effect.Create image size role) =
    record f { images = finmap.insert f.images image (record { bytes = replicate size 0; snaps = []; role = role }) }
after f (effect.Clone image parent snap) = cloned (snap_of (image_at f parent) snap) image f
after f (effect.Piece image at bytes) =
    with_image f image (λ i. record i { bytes = painted (places_of at) bytes i.bytes })
after f (effect.Zero image at) = with_image f image (λ i. record i { bytes = painted (places_of at) [] i.bytes })
after f (effect.Size image size) = with_image f image (λ i. record i { bytes = resized size i.bytes })
after f (effect.Snap image snap name) =
    with_image f image (λ i. record i {
      snaps = i.snaps ++ record {
        id = snap;
        name = name;
        bytes = i.bytes;
        status = Unprotected;
      } ∷ [];
    })
after f (effect.Unsnap image snap) =
    with_image f image (λ i. record i { snaps = filter (λ s. not (s.id == snap)) i.snaps })
after f (effect.Status image snap status) =
    with_image f image (λ i. record i { snaps = map (with_status snap status) i.snaps })
after f (effect.Link parent snap child) =
    record f { links = finset.insert f.links (record { parent = parent; snap = snap; child = child }) }
after f (effect.Unlink parent snap child) =
    record f { links = finset.remove f.links (record { parent = parent; snap = snap; child = child }) }
after f (effect.Role image role) = with_image f image (λ i. record i { role = role })
after f (effect.Gone image) = record f { images = finmap.remove f.images image }

abbrev pub after_all : Flat → List Effect → Flat
after_all f [] = f
after_all f (e ∷ effects) = after_all (after f e) effects
