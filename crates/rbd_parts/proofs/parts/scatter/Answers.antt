use Rattle.std.proofs.Common.{get_or, ◌∙◌, arith, length-drop}
use Rattle.std.proofs.lemmas.Option.{slice_get-get_or}
use Rattle.rbd_parts.proofs.ContentsLemmas.{length_overwritten}
use Rattle.rbd_parts.proofs.PartsLemmas.{next_written, next_len}
use Rattle.rbd_parts.proofs.parts.scatter.Goals as goal

pub loop-part-preserved : goal.loop-part-preserved
loop-part-preserved c =
    let i = c.loop-part.part-index in
    let len = next_len c.args.parts.now i (record { offset = 0; at = 0; len = 0 }) c.loop-part-test.true in
    let within = c.requires.within i (get_or c.args.parts.now i (record { offset = 0; at = 0; len = 0 })) (slice_get-get_or c.args.parts.now i _ c.loop-part-test.true) in
    let first = c.split_at.ensures.front_len in
    record {
      left =
          rw (c.copy_over.ensures, c.split_at.ensures.front, c.split_at.ensures.back)
          (next_written c.args.parts.now i (record { offset = 0; at = 0; len = 0 }) c.loop-part.rest.now c.loop-part.into c.loop-part-test.true ∙ c.loop-part.invariant.left);
      long = rw c.split_at.ensures.back (length-drop _ c.loop-part.rest.now ∙ omega arith);
      same = rw c.copy_over.ensures (length_overwritten c.loop-part.into _ _ ∙ omega arith);
    }
