-- When the records of a site stand for a flat site.
use Rattle.std.specs.Prelude.{◌≡◌, ◌≢◌, ℕ, ◌<◌, List, length, slice_get, IsTrue, Option, None, Some}
use Rattle.std.specs.FinSet as finset
use Rattle.rbd_kinds.specs.declared.header.HeaderView.{HeaderView}
use Rattle.rbd_kinds.specs.declared.header.ParentLink.{ParentLink}
use Rattle.rbd_kinds.specs.declared.header.SnapStatus.TheVariants.{Unprotected}
use Rattle.rbd_object.specs.Mapped.{Mapped, mapped_blank}
use Rattle.rbd_flat.specs.Flat.{Flat, FlatImage, FlatSnap, image_at}
use Rattle.rbd_site.specs.Records.{Records, object_at}
use Rattle.rbd_stands.specs.Shown.{Snapshots, Links, links_of, snapshots_of}
use Rattle.rbd_stands.specs.Image.{ImageStands}

-- An id has both a header and a flat image, or neither. Without a header, objects may be left over
-- of an image that was removed.
abbrev pub StandsAt : Snapshots → Links → Option HeaderView → (objects : ℕ → Mapped) → Option FlatImage → Type 0
StandsAt below linked None objects None = Unit {0}
StandsAt below linked None objects (Some i) = ⊥
StandsAt below linked (Some h) objects None = ⊥
StandsAt below linked (Some h) objects (Some i) = ImageStands below linked h objects i

-- Nothing was done to an id yet but to draw it: so it is from `dir-add` on, until its header is
-- made.
pub record IsUntouched (r : Records) (f : Flat) (image : ℕ) : Type 0 where
  pub header : r.headers image ≡ None
  pub flat : image_at f image ≡ None
  pub blank : (number : ℕ) → object_at r image number ≡ mapped_blank

-- A clone that is being made: it has seen its parent's snapshot protected, and its header, which
-- may not be there yet, will name this parent.
pub record Pending : Type 0 where
  pub child : ℕ
  pub link : ParentLink

-- The snapshot is there, its length is the overlap, it isn't unprotected, and the child is linked
-- to it.
pub record IsAwaited (below : Snapshots) (linked : Links) (link : ParentLink) : Type 0 where
  pub snap : FlatSnap
  pub is : below link.image link.snap ≡ Some snap
  pub long : length snap.bytes ≡ link.overlap
  pub kept : snap.status ≢ Unprotected
  pub child : IsTrue (linked link.image link.snap)

-- the flat site's links are the entries of the list of children
abbrev pub AreChildrenLinked : Records → Flat → Type 0
AreChildrenLinked r f = (parent snap child : ℕ)
    → finset.contains r.children (record { parent = parent; snap = snap; child = child }) ≡ links_of f child parent snap

-- The records stand for the flat site, while these clones are being made.
pub record StandsFor (pending : List Pending) (r : Records) (f : Flat) : Type 0 where
  -- the directory's names are the flat site's
  pub names : r.directory.names ≡ f.names
  pub links : AreChildrenLinked r f
  pub images : (image : ℕ) → StandsAt (snapshots_of f) (links_of f image) (r.headers image) (object_at r image)
      (image_at f image)
  pub awaited : (k : ℕ) (p : Pending) → slice_get pending k ≡ Some p
      → IsAwaited (snapshots_of f) (links_of f p.child) p.link
  -- an id that the directory hasn't drawn is untouched
  pub fresh : (image : ℕ) → r.directory.drawn < image → IsUntouched r f image
