-- What a rollback takes at most by a header that was told.
use Rattle.std.specs.Prelude.{◌≡◌, ℕ, ◌+◌, ◌*◌, ◌≤◌, List, length, Some}
use Rattle.rbd_kinds.specs.declared.header.HeaderView.{HeaderView}
use Rattle.rbd_kinds.specs.declared.header.SnapView.{SnapView}
use Rattle.rbd_kinds.specs.Header.{snap_named}
use Rattle.rbd_layout.specs.Pieces.{pieces_of}
use Rattle.rbd_meaning.specs.Rollbacks.{at_size}
use Rattle.rbd_pieces.specs.Shrink.{head_from}
use Rattle.rbd_pieces.specs.Zero.{head_of}

-- What a rollback zeros and restores takes at most so many operations: three for each object with a
-- byte behind the snapshot's size, and four for each of the snapshot's.
abbrev pub HasFewToRestore : (snap : List ℕ) (most : ℕ) → HeaderView → Type 0
HasFewToRestore snap most h = (s : SnapView) → snap_named h.snaps snap ≡ Some s
    → 3 * length (pieces_of h.layout (head_from h s.size))
    + 4 * length (pieces_of h.layout (head_of (at_size s.size h))) ≤ most
