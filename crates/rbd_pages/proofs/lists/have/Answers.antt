use Rattle.std.proofs.Common.{◌≡◌, ◌/◌, get_or, subst, arith}
use Rattle.rbd_pages.specs.Sheets.{count_at}
use Rattle.rbd_pages.proofs.ListsLemmas.{on_ok, next_sheaf}
use Rattle.rbd_pages.proofs.GrownLemmas.{grown_more, taken_past}
use Rattle.rbd_pages.proofs.lists.have.Goals as goal

pub returns-else-k-len-clause-len : goal.returns-else-k-len-clause-len
returns-else-k-len-clause-len c =
    let at = next_sheaf c.args.sheaves.now.sheaves c.args.list.now.items c.args.k c.requires.full c.requires.near
    (let vec = c.args.list.now.ok.0 in let past = c.if-k-len.false in let len = c.len.ensures in omega arith) in
    on_ok c.extend.result (λ long. (omega arith)) c.extend.ensures.len

pub returns-else-k-len-clause-alone : goal.returns-else-k-len-clause-alone
returns-else-k-len-clause-alone c =
    let at = next_sheaf c.args.sheaves.now.sheaves c.args.list.now.items c.args.k c.requires.full c.requires.near
    (let vec = c.args.list.now.ok.0 in let past = c.if-k-len.false in let len = c.len.ensures in omega arith) in
    on_ok c.extend.result (λ alone. subst (λ m. count_at c.extend.new.sheaves.sheaves (get_or c.extend.new.list.items m 0) ≡ 1) at alone) c.extend.ensures.alone

pub returns-else-k-len-clause-grown : goal.returns-else-k-len-clause-grown
returns-else-k-len-clause-grown c =
    let all = taken_past c.args.sheaves.now.sheaves c.args.list.now.items (c.args.k / 128)
    (let vec = c.args.list.now.ok.0 in let past = c.if-k-len.false in let len = c.len.ensures in omega arith) in
    grown_more 0 1 0 _ c.args.sheaves.now c.extend.new.sheaves c.extend.ensures.grown (omega arith) (omega arith)
