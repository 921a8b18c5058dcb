use Rattle.std.proofs.Common.{sym, ◌∙◌, arith}
use Rattle.rbd_script.proofs.PairsRead.{pair_is_read}
use Rattle.rbd_script.proofs.payload.read_pairs.Goals as goal

pub pairs-preserved : goal.pairs-preserved
pairs-preserved c =
    let is = sym c.pair.ensures ∙ c.in-Some.is in
    pair_is_read c.args.token.now c.pairs.bytes c.pairs.i c.in-Some.byte (omega arith) (omega arith) is c.pairs.invariant
