use Rattle.std.proofs.Common.{arith, sym, ◌∙◌}
use Rattle.rbd_journal.proofs.Fields.{discard_has}
use Rattle.rbd_journal.proofs.body.discard_of.Goals as goal

pub returns-clause-found : goal.returns-clause-found
returns-clause-found c =
    discard_has c.args.body.now c.split_at.result.0.now c.split_at.result.1.now c.read_u64-at.result c.read_u64-len.result
    c.requires (λ i. omega (arith, c.type_inv.body i)) c.split_at.ensures.front c.split_at.ensures.back
    c.read_u64-at.ensures c.read_u64-len.ensures (sym c.is_discard.ensures ∙ c.if-not-is_discard.false)
