use Rattle.std.proofs.Common.{◌≡◌, drop}
use Rattle.rbd_journal.proofs.entry.drop_front.Given as goal

abbrev pub invariant-loop : goal.invariant-loop
invariant-loop l = l.entries.items ≡ drop l.counter l.fn.entries.items
