-- What a header tells, and what each change of it does.
use Rattle.std.specs.Prelude.{option_map, reverse, ℕ, ◌+◌, ◌==◌, nat_le, min, not, Bool, ◌||◌, false, List, [], ◌∷◌, ◌++◌, length, map, Option, None, Some, if◌then◌else◌}
use Rattle.std.specs.List.{filter}
use Rattle.rbd_kinds.specs.declared.header.HeaderView.{HeaderView}
use Rattle.rbd_kinds.specs.declared.header.SnapContext.{SnapContext}
use Rattle.rbd_kinds.specs.declared.header.SnapView.{SnapView}
use Rattle.rbd_kinds.specs.declared.header.ParentLink.{ParentLink}
use Rattle.rbd_kinds.specs.declared.header.GlobalName.{GlobalName}
use Rattle.rbd_kinds.specs.declared.header.Role.{Role}
use Rattle.rbd_kinds.specs.declared.header.Role.TheVariants.{Plain, Primary}
use Rattle.rbd_kinds.specs.declared.header.SnapStatus.{SnapStatus}
use Rattle.rbd_kinds.specs.declared.header.SnapStatus.TheVariants.{Unprotected}
use Rattle.rbd_kinds.specs.declared.layout.Layout.{Layout}
use Rattle.rbd_kinds.specs.Header.{snap_named}
use Rattle.rbd_header.specs.declared.view.View.{View}

-- the first snapshot with an id
abbrev pub snap_in : List SnapView → ℕ → Option SnapView
snap_in [] t = None
snap_in (s ∷ snaps) t = if s.id == t then Some s else snap_in snaps t

-- 256 snapshots are listed, or the ids are used up
abbrev pub is_full : HeaderView → Bool
is_full h = nat_le 256 (length h.snaps) || (h.snap_seq == 4294967295)

-- the header of a new image of zeros, which has no parent and no journal
abbrev pub new_header : Layout → (size : ℕ) → HeaderView
new_header layout size = record {
  layout = layout;
  size = size;
  generation = 0;
  snap_seq = 0;
  snaps = [];
  parent = None;
  depth = 0;
  born = size;
  born_clone = false;
  journal = false;
  syncing = false;
  owner = None;
  global = None;
  role = Plain;
}

-- the ids of the snapshots, in their order
abbrev pub ids_of : List SnapView → List ℕ
ids_of snaps = map (λ (s : SnapView). s.id) snaps

-- The snapshot context of a change of the image's data: the id of the snapshot that was taken last,
-- and the ids of those that are listed, newest first.
abbrev pub context_of : HeaderView → SnapContext
context_of h = record { seq = h.snap_seq; snaps = reverse (ids_of h.snaps) }

-- a parent whose overlap ends at a size
abbrev pub cut : ℕ → Option ParentLink → Option ParentLink
cut size None = None
cut size (Some p) = Some (record p { overlap = min p.overlap size })

-- Each change raises the generation by one.

abbrev pub with_size : ℕ → HeaderView → HeaderView
with_size size h = record h { size = size; parent = cut size h.parent; generation = h.generation + 1 }

-- the snapshot is the newest, and has the head's size and parent
abbrev pub snap_taken : List ℕ → HeaderView → SnapView
snap_taken name h = record { id = h.snap_seq + 1; name = name; size = h.size; status = Unprotected; parent = h.parent }

abbrev pub with_snap : List ℕ → HeaderView → HeaderView
with_snap name h = record h {
  snaps = h.snaps ++ snap_taken name h ∷ [];
  snap_seq = h.snap_seq + 1;
  generation = h.generation + 1;
}

-- a snapshot with this status, if it has the id
abbrev pub status_marked : ℕ → SnapStatus → SnapView → SnapView
status_marked t status s = if s.id == t then record s { status = status } else s

abbrev pub with_status : ℕ → SnapStatus → HeaderView → HeaderView
with_status t status h = record h { snaps = map (status_marked t status) h.snaps; generation = h.generation + 1 }

abbrev pub without_snap : ℕ → HeaderView → HeaderView
without_snap t h = record h { snaps = filter (λ s. not (s.id == t)) h.snaps; generation = h.generation + 1 }

abbrev pub detached : HeaderView → HeaderView
detached h = record h { parent = None; generation = h.generation + 1 }

abbrev pub with_role : Role → HeaderView → HeaderView
with_role role h = record h { role = role; generation = h.generation + 1 }

-- mirrored under a global name, as the primary
abbrev pub with_global : GlobalName → HeaderView → HeaderView
with_global global h = record h { global = Some global; role = Primary; generation = h.generation + 1 }

abbrev pub in_step : HeaderView → HeaderView
in_step h = record h { syncing = false; generation = h.generation + 1 }

-- ---- views

-- the view of a name, the head where there is none
abbrev pub view_of_snap : SnapView → View
view_of_snap snap = record { snap = Some snap.id; size = snap.size }

abbrev pub view_of : HeaderView → (name : Option (List ℕ)) → Option View
view_of h None = Some (record { snap = None; size = h.size })
view_of h (Some name) = option_map view_of_snap (snap_named h.snaps name)
