-- What an image's header may be after one that it was. What never changes of an image, and what
-- changes one way alone: so who saw a header knows of the later ones too.
use Rattle.std.specs.Prelude.{◌≡◌, ℕ, ◌≤◌, false, List, Option, Some, None}
use Rattle.rbd_kinds.specs.declared.header.GlobalName.{GlobalName}
use Rattle.rbd_kinds.specs.declared.header.HeaderView.{HeaderView}
use Rattle.rbd_kinds.specs.declared.header.ParentLink.{ParentLink}
use Rattle.rbd_kinds.specs.declared.header.SnapView.{SnapView}
use Rattle.rbd_header.specs.Header.{snap_in}

-- The parent goes for good, or stays the same with an overlap that isn't greater.
abbrev pub IsParentLater : (old new : Option ParentLink) → Type 0
IsParentLater old None = Unit {0}
IsParentLater None (Some link) = ⊥
IsParentLater (Some was) (Some link) = (link.image ≡ was.image) × (link.snap ≡ was.snap) × (link.overlap ≤ was.overlap)

-- A global name stays, once the image has one.
abbrev pub IsGlobalLater : (old new : Option GlobalName) → Type 0
IsGlobalLater None new = Unit {0}
IsGlobalLater (Some name) new = new ≡ Some name

-- The snapshot of the id was listed, with this one's name, size and parent. Its status may have
-- been another.
pub record WasListed (snaps : List SnapView) (t : ℕ) (s : SnapView) : Type 0 where
  pub was : SnapView
  pub listed : snap_in snaps t ≡ Some was
  pub name : s.name ≡ was.name
  pub size : s.size ≡ was.size
  pub parent : s.parent ≡ was.parent

-- A header that an image may have after an old one. Its owner, size, generation and role may be
-- any. A snapshot that the old header could have listed is listed only where the old one did so:
-- ids aren't drawn again.
pub record IsLaterOf (old new : HeaderView) : Type 0 where
  pub layout : new.layout ≡ old.layout
  pub depth : new.depth ≡ old.depth
  pub born : new.born ≡ old.born
  pub born_clone : new.born_clone ≡ old.born_clone
  pub journal : new.journal ≡ old.journal
  pub global : IsGlobalLater old.global new.global
  pub synced : old.syncing ≡ false → new.syncing ≡ false
  pub seq : old.snap_seq ≤ new.snap_seq
  pub parent : IsParentLater old.parent new.parent
  pub snaps : (t : ℕ) (s : SnapView) → t ≤ old.snap_seq → snap_in new.snaps t ≡ Some s → WasListed old.snaps t s
