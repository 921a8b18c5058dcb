use Rattle.std.proofs.Common.{◌≡◌, ◌++◌, take}
use Rattle.std.specs.List.{flat_map}
use Rattle.rbd_text.specs.Text.{reply_line}
use Rattle.rbd_text.proofs.output.push_replied.Given as goal

abbrev pub invariant-loop-entry : goal.invariant-loop-entry
invariant-loop-entry l = l.text.items ≡ l.fn.text.items ++ flat_map (reply_line l.fn.script.sessions l.fn.script.lines) (take l.entry-index l.history)
