use Rattle.std.proofs.Common.{◌≡◌, ◌++◌, drop}
use Rattle.rbd_parts.specs.Parts.{parts_of}
use Rattle.rbd_pages.specs.Listed.{listed_bytes}
use Rattle.rbd_pages.proofs.content.Content.read_parts.Given as goal

-- what was read, and what is left to read
abbrev pub invariant-loop-part : goal.invariant-loop-part
invariant-loop-part l = l.read.items ++ parts_of (drop l.part-index l.parts) (listed_bytes l.sheaves l.self) ≡ parts_of l.parts (listed_bytes l.sheaves l.self)
