use Rattle.std.proofs.Common.{◌≡◌, length, drop}
use Rattle.rbd_kinds.specs.Parts.{parts_len}
use Rattle.rbd_parts.specs.Parts.{parts_written}
use Rattle.rbd_parts.proofs.parts.scatter.Given as goal

-- once the parts that are left are written, all are
abbrev pub invariant-loop-part : goal.invariant-loop-part
invariant-loop-part l = record {
  left : parts_written (drop l.part-index l.parts) l.rest l.into ≡ parts_written l.parts l.bytes l.initial.into;
  long : length l.rest ≡ parts_len (drop l.part-index l.parts);
  same : length l.into ≡ length l.initial.into;
}
