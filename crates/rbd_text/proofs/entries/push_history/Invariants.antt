use Rattle.std.proofs.Common.{◌≡◌, ◌++◌, drop, suc}
use Rattle.rbd_text.specs.Entries.{history_from, history_text}
use Rattle.rbd_text.proofs.entries.push_history.Given as goal

-- the lines so far, and those of the entries that are left, are the history's
abbrev pub invariant-loop-index : goal.invariant-loop-index
invariant-loop-index l = l.text.items ++ history_from l.sessions (suc l.index) (drop l.index l.history) ≡ l.fn.text.items ++ history_text l.sessions l.history
