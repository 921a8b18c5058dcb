use Rattle.std.proofs.Common.{Some, sym, subst}
use Rattle.rbd_object.specs.Shared.{KeepsHead}
use Rattle.rbd_object.proofs.HeadLemmas.{counted_both, head_after, replaced, untouched}
use Rattle.rbd_pages.proofs.GrownLemmas.{grown_then_none}
use Rattle.rbd_object.proofs.heads.write_full.Goals as goal
use Rattle.rbd_kinds.proofs.Results.{on_err_always}

pub returns-in_err-content-clause-err : goal.returns-in_err-content-clause-err
returns-in_err-content-clause-err c =
    on_err_always _ (untouched c.args.sheaves.now c.filled.new.sheaves c.args.head.now c.requires.counted c.requires.content c.in_err-content.ensures.err).0

pub returns-in_err-content-clause-same : goal.returns-in_err-content-clause-same
returns-in_err-content-clause-same c =
    on_err_always _ (untouched c.args.sheaves.now c.filled.new.sheaves c.args.head.now c.requires.counted c.requires.content c.in_err-content.ensures.err).1

pub replace-requires-clause-counted : goal.replace-requires-clause-counted
replace-requires-clause-counted c = counted_both c.args.sheaves.now c.filled.new.sheaves _ c.in_ok-content.content.sheaves c.in_ok-content.ensures.exchanged c.requires.counted

pub replace-requires-clause-content : goal.replace-requires-clause-content
replace-requires-clause-content c =
    (head_after c.args.sheaves.now c.filled.new.sheaves c.args.head.now c.in_ok-content.content.sheaves c.requires.counted c.requires.content c.in_ok-content.ensures.exchanged).0

pub returns-clause-ok : goal.returns-clause-ok
returns-clause-ok c =
    subst (λ h. KeepsHead c.args.wanted c.args.sheaves.now c.args.head.now c.replace.new.sheaves h c.replace.result) (sym c.replace.ensures.head)
    (replaced c.args.wanted c.args.sheaves.now c.filled.new.sheaves c.replace.new.sheaves c.args.head.now (Some c.in_ok-content.content) c.replace.result
    c.requires.counted c.requires.content c.in_ok-content.ensures.exchanged c.replace.ensures.exchanged c.replace.ensures.head_is
    c.replace.ensures.kept_is c.replace.ensures.bytes)

pub returns-clause-grown : goal.returns-clause-grown
returns-clause-grown c = grown_then_none _ _ c.args.sheaves.now c.filled.new.sheaves c.replace.new.sheaves c.filled.ensures.grown c.replace.ensures.places
