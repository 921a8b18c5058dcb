use Rattle.std.proofs.Common.{arith}
use Rattle.rbd_parts.proofs.ContentsLemmas.{overwritten-put}
use Rattle.rbd_parts.proofs.parts.copy_over.Goals as goal

pub returns : goal.returns
returns c = rw c.copy_from_slice.ensures.after (overwritten-put c.args.bytes.now c.args.new.now c.args.at _ (omega arith) c.requires)
