use Rattle.std.proofs.Common.{◌≡◌, drop}
use Rattle.rbd_lab.specs.Script as told
use Rattle.rbd_lab.proofs.script.first_unbuilt.Given as goal

-- the first of the rest is the first of all
abbrev pub invariant-loop-line : goal.invariant-loop-line
invariant-loop-line l = told.unbuilt_line (drop l.line-index l.lines) ≡ told.unbuilt_line l.lines
