use Rattle.std.proofs.Common.{◌≡◌, Some, sym}
use Rattle.rbd_kinds.specs.Header.{snap_named}
use Rattle.rbd_snap.proofs.Named.{named_is_listed}
use Rattle.rbd_snap.proofs.snap.SnapChangeChange.part.Goals as goal

pub new-requires-in-Remove : goal.new-requires-in-Remove
new-requires-in-Remove c =
    let h = c.args.header.now in
    let snap = c.args.self.now.snap in
    let named : snap_named h.snaps snap ≡ Some c.in-Some.listed.now = sym c.in-Some.ensures in
    named_is_listed h.snaps snap c.in-Some.listed.now named
