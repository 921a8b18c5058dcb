use Rattle.std.proofs.Common.{◌≡◌, ℕ, List, map, drop}
use Rattle.std.specs.List.{list_all}
use Rattle.rbd_queue.specs.Kept.{member}
use Rattle.rbd_queue.specs.Line.{lets_pass, ahead}
use Rattle.rbd_queue.proofs.standing.are_letting_pass.Given as goal

-- those so far let it pass
abbrev pub invariant-loop-standing : goal.invariant-loop-standing
invariant-loop-standing l =
    (held : ℕ → List ℕ) → list_all (lets_pass l.sharing) (ahead l.slot (map (member held) (drop l.standing-index l.members)))
    ≡ list_all (lets_pass l.sharing) (ahead l.slot (map (member held) l.members))
