use Rattle.std.proofs.Common.{◌≡◌, ◌++◌, take}
use Rattle.rbd_text.specs.Replies.{snaps_text}
use Rattle.rbd_text.proofs.snaps.push_snaps.Given as goal

abbrev pub invariant-loop-snap : goal.invariant-loop-snap
invariant-loop-snap l = l.text.items ≡ l.fn.text.items ++ snaps_text (take l.snap-index l.snaps)
