use Rattle.std.proofs.Common.{◌≡◌, ◌-◌, suc, sym, ◌∙◌, arith}
use Rattle.rbd_pieces.proofs.Ends.{cut_there, shorter}
use Rattle.rbd_pieces.proofs.cut.cut_len.Goals as goal

pub returns-then-bytes-len-ne0-clause-cut : goal.returns-then-bytes-len-ne0-clause-cut
returns-then-bytes-len-ne0-clause-cut c =
    let last : suc (c.loop-len.len - 1) ≡ c.loop-len.len = omega arith in
    sym (cut_there (c.loop-len.len - 1) c.loop-len.len c.args.bytes.now last c.loop-len.invariant.within c.if-bytes-len-ne0.true) ∙ c.loop-len.invariant.cut

pub loop-len-preserved : goal.loop-len-preserved
loop-len-preserved c =
    let last : suc (c.loop-len.len - 1) ≡ c.loop-len.len = omega arith in
    record {
      within = omega (arith, c.loop-len.invariant.within);
      cut = sym (shorter (c.loop-len.len - 1) c.loop-len.len c.args.bytes.now last c.loop-len.invariant.within c.if-bytes-len-ne0.false) ∙ c.loop-len.invariant.cut;
    }
