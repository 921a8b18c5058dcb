use Rattle.std.proofs.Common.{◌∙◌, ap}
use Rattle.rbd_kinds.specs.declared.header.HeaderView.{HeaderView}
use Rattle.rbd_header.specs.Header.{context_of, snap_in}
use Rattle.rbd_machine.proofs.Lawful.{one_header}
use Rattle.rbd_machine.proofs.laws.the_look_under_lock_decides.Goals as goal

pub returns-clause-context : goal.returns-clause-context
returns-clause-context c = λ k site image number sharing h context must parts bytes is may.
    may.meets.under ∙ ap context_of (one_header k site image sharing h _ is may)

pub returns-clause-protected : goal.returns-clause-protected
returns-clause-protected c = λ k site image snap sharing h listed is there protected may.
    let same = one_header k site image sharing h _ is may in
    let found = may.meets.1.listed in
    let listed_there = ap (λ (v : HeaderView). snap_in v.snaps snap) same in
    let unprotected = may.meets.1.unprotected in
    protected cc
