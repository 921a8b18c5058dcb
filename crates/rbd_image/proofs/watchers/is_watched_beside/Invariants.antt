use Rattle.std.proofs.Common.{◌≡◌, drop}
use Rattle.rbd_meaning.specs.Removals.{is_watched_beside}
use Rattle.rbd_image.proofs.watchers.is_watched_beside.Given as goal

-- the watchers that are left have the answer
abbrev pub invariant-loop-watcher : goal.invariant-loop-watcher
invariant-loop-watcher l = is_watched_beside l.session (drop l.watcher-index l.watchers) ≡ is_watched_beside l.session l.watchers
