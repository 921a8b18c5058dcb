use Rattle.std.proofs.Common.{◌≡◌, ◌+◌, drop}
use Rattle.rbd_kinds.specs.Parts.{parts_len}
use Rattle.rbd_pieces.proofs.gather.total.Given as goal

-- what was counted, and what is left to count
abbrev pub invariant-loop-part : goal.invariant-loop-part
invariant-loop-part l = l.len + parts_len (drop l.part-index l.parts) ≡ parts_len l.parts
