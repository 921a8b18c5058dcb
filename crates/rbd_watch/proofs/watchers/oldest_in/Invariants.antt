use Rattle.std.proofs.Common.{◌≡◌, drop}
use Rattle.rbd_watch.specs.Watching.{older, oldest_of}
use Rattle.rbd_watch.proofs.watchers.oldest_in.Given as goal

-- the older of what was found and what is left to find is the oldest
abbrev pub invariant-loop-instance : goal.invariant-loop-instance
invariant-loop-instance l = older l.found (oldest_of l.session (drop l.instance-index l.instances)) ≡ oldest_of l.session l.instances
