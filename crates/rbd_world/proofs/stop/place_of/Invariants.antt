use Rattle.std.proofs.Common.{◌≡◌, ◌++◌, take, drop}
use Rattle.rbd_world.specs.Step.{insert_line}
use Rattle.rbd_world.proofs.stop.place_of.Given as goal

-- it comes behind all before this place
abbrev pub invariant-loop-place : goal.invariant-loop-place
invariant-loop-place l = insert_line l.line l.lines ≡ take l.place l.lines ++ insert_line l.line (drop l.place l.lines)
