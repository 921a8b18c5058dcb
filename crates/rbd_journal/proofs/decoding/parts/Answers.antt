use Rattle.std.proofs.Common.{sym, subst, get_or, take, drop, length, ◌-◌, List, ℕ}
use Rattle.rbd_journal.specs.Parts.{HasHeader}
use Rattle.rbd_journal.proofs.Fields.{header_has, first_and_rest}
use Rattle.rbd_journal.proofs.decoding.parts.Goals as goal

pub returns-clause-header : goal.returns-clause-header
returns-clause-header c =
    let bytes = c.args.bytes.now in
    subst (λ (x : List ℕ). HasHeader x c.in-Some.kind c.in_ok-body.body.now) (first_and_rest bytes c.in-len1-up.len_at_least)
    (header_has (get_or bytes 0 0) (take (length bytes - 1) (drop 1 bytes)) c.in-Some.kind c.in_ok-body.body.now (sym c.in-Some.ensures) c.in_ok-body.ensures.header)
