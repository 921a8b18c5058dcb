-- When what a request was told of images and snapshots, whose lock it doesn't need, is true at a
-- site (Ceph: the parents of a clone).
use Rattle.std.specs.Prelude.{◌≡◌, ℕ, ◌≤◌, true, false, List, Option, Some}
use Rattle.rbd_kinds.specs.declared.header.HeaderView.{HeaderView}
use Rattle.rbd_kinds.specs.declared.header.SnapView.{SnapView}
use Rattle.rbd_kinds.specs.declared.id.SiteId.{SiteId}
use Rattle.rbd_kinds.specs.declared.layout.Part.{Part}
use Rattle.rbd_header.specs.Header.{snap_in}
use Rattle.rbd_header.specs.Later.{IsLaterOf}
use Rattle.rbd_flat.specs.Flat.{Flat}
use Rattle.rbd_machine.specs.Ancestors.{HeaderSeen, IsAmong, ObjectTold, has_seen}
use Rattle.rbd_machine.specs.Knowledge.{Knowledge, is_drawn}
use Rattle.rbd_site.specs.Records.{Records}
use Rattle.rbd_stands.specs.Condition.{IsDrawn}
use Rattle.rbd_stands.specs.Told.{IsDated, IsStillTold}

-- A header that was told of an image: the one that the image has now, if it has any, is later.
pub record IsSeenTrue (r : Records) (image : ℕ) (h : HeaderView) : Type 0 where
  pub drawn : IsDrawn r image
  pub later : (now : HeaderView) → r.headers image ≡ Some now → IsLaterOf h now
  pub numbered : (t : ℕ) (s : SnapView) → snap_in h.snaps t ≡ Some s → t ≤ h.snap_seq

abbrev pub AreSeenTrue : SiteId → Records → List HeaderSeen → Type 0
AreSeenTrue site r seen = (image : ℕ) (h : HeaderView)
    → IsAmong (record { site = site; image = image; header = h }) seen → IsSeenTrue r image h

-- What was read of a snapshot is still so where the snapshot is listed, and no later one can be
-- taken for it. A header of its image was told too.
pub record IsToldTrue (site : SiteId) (r : Records) (f : Flat) (seen : List HeaderSeen) (image snap object : ℕ)
    (parts : List Part) (bytes : Option (List ℕ)) : Type 0 where
  pub saw : has_seen seen site image ≡ true
  pub dated : IsDated r image snap
  pub still : IsStillTold r f image snap object parts bytes

-- This says something of the flat site too, and not of records alone: what was absent when it was
-- read may be there by now, with the bytes that it inherited.
abbrev pub AreToldTrue : SiteId → Records → Flat → List HeaderSeen → List ObjectTold → Type 0
AreToldTrue site r f seen told = (image snap object : ℕ) (parts : List Part) (bytes : Option (List ℕ))
    → IsAmong (record { site = site; image = image; snap = snap; object = object; parts = parts; bytes = bytes }) told
    → IsToldTrue site r f seen image snap object parts bytes

-- so is all that a request read of snapshots
abbrev pub HasReadTruly : SiteId → Records → Flat → Knowledge → Type 0
HasReadTruly site r f k = AreToldTrue site r f k.seen k.told

-- Who does operations drew no image's id of which a header was told: so none of these images is
-- made anew.
abbrev pub DrewNoneOf : SiteId → List HeaderSeen → Knowledge → Type 0
DrewNoneOf site seen k = (image : ℕ) → has_seen seen site image ≡ true → is_drawn k.drawn site image ≡ false
