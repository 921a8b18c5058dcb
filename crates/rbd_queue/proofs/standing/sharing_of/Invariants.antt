use Rattle.std.proofs.Common.{◌≡◌, ℕ, List, map, drop}
use Rattle.std.specs.Option.{option_map}
use Rattle.rbd_queue.specs.Kept.{member}
use Rattle.rbd_queue.specs.Line.{Member, member_of}
use Rattle.rbd_queue.proofs.standing.sharing_of.Given as goal

-- the member is looked for among the others
abbrev pub invariant-loop-standing : goal.invariant-loop-standing
invariant-loop-standing l =
    (held : ℕ → List ℕ) → option_map (λ (m : Member). m.sharing) (member_of l.slot (map (member held) (drop l.standing-index l.members)))
    ≡ option_map (λ (m : Member). m.sharing) (member_of l.slot (map (member held) l.members))
