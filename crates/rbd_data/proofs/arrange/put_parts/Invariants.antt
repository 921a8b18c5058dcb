use Rattle.std.proofs.Common.{◌≡◌, length, drop}
use Rattle.rbd_meaning.specs.Arrange.{put_parts, behind_parts}
use Rattle.rbd_data.proofs.arrange.put_parts.Given as goal

-- once the parts that are left are put, all are
abbrev pub invariant-loop-part : goal.invariant-loop-part
invariant-loop-part l = record {
  left : put_parts l.extent.at (drop l.part-index l.parts) l.rest l.into ≡ put_parts l.extent.at l.parts l.read l.initial.into;
  behind : behind_parts (drop l.part-index l.parts) l.rest ≡ behind_parts l.parts l.read;
  same : length l.into ≡ length l.initial.into;
}
