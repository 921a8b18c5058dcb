use Rattle.std.proofs.Common.{◌≡◌, ℕ, ◌+◌, ◌-◌, vec_len}
use Rattle.rbd_line_table.specs.Known.{known_at}
use Rattle.rbd_line_table.proofs.line_map.LineMap.reach.Given as goal

abbrev pub invariant-loop-alloc : goal.invariant-loop-alloc
invariant-loop-alloc g l = (other : ℕ) → known_at l.self other ≡ known_at l.fn.self other

abbrev pub decreases-loop-alloc : goal.decreases-loop-alloc
decreases-loop-alloc g l = l.page + 1 - vec_len l.self.pages
