use Rattle.std.proofs.Common.{arith, sym, ◌∙◌}
use Rattle.rbd_journal.proofs.Fields.{body_has}
use Rattle.rbd_journal.proofs.decoding.body_after.Goals as goal

pub returns-clause-header : goal.returns-clause-header
returns-clause-header c = body_has c.args.kind c.args.rest.now c.split_at.result.0.now c.split_at.result.1.now c.read_u32-length.result (λ i. omega (arith, c.type_inv.rest i)) c.if-rest-lt4.false c.split_at.ensures.front c.split_at.ensures.back c.read_u32-length.ensures (sym c.allows_length.ensures ∙ c.if-not-allows_length.false) c.if-rest-length.false
