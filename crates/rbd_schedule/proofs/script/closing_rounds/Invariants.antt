use Rattle.std.proofs.Common.{◌≡◌, ◌≤◌, length, take}
use Rattle.rbd_schedule.specs.Given.{commands_of}
use Rattle.rbd_schedule.proofs.script.closing_rounds.Given as goal

-- the commands of the lines so far were counted
abbrev pub invariant-loop-line : goal.invariant-loop-line
invariant-loop-line l = record {
  counted : l.commands ≡ length (commands_of (take l.line-index l.fn.lines));
  few : l.commands ≤ l.line-index;
}
