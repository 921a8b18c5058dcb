use Rattle.rbd_pages.specs.Sheaves.{pages_in}
use Rattle.std.proofs.Common.{ℕ, ◌≡◌, ◌+◌, ◌-◌, ◌<◌, ◌≤◌, length, get_or}
use Rattle.rbd_pages.specs.Paging.{byte_on_pages}
use Rattle.rbd_pages.proofs.bytes.read.Given as goal

-- the bytes that were read so far
abbrev pub invariant-loop-done : goal.invariant-loop-done
invariant-loop-done l = record {
  same : length l.into ≡ length l.initial.into;
  up_to : l.done ≤ length l.into;
  bytes : (j : ℕ) → j < l.done → get_or l.into j 0 ≡ byte_on_pages l.arena (pages_in l.sheaves l.list) (l.at + j);
}

abbrev pub decreases-loop-done : goal.decreases-loop-done
decreases-loop-done l = length l.into - l.done
