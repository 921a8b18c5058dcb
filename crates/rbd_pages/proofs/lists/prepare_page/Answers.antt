use Rattle.std.proofs.Common.{◌≡◌, ◌+◌, ◌/◌, ◌%◌, ◌≤◌, length, max, ap, sym, subst, arith}
use Rattle.std.proofs.lemmas.List.{get_or_read}
use Rattle.rbd_pages.specs.Sheets.{bytes_at, count_at}
use Rattle.rbd_pages.proofs.SheavesLemmas.{near_place}
use Rattle.rbd_pages.proofs.ListsLemmas.{counted_exchanged, list_prepared_trans, on_ok, page_longer, step_full, step_prepared, steps_made, there_after, ready_own}
use Rattle.rbd_pages.proofs.GrownLemmas.{grown_more, grown_trans, page_grown}
use Rattle.rbd_pages.proofs.lists.prepare_page.Goals as goal

pub prepare_page-requires-clause-alone : goal.prepare_page-requires-clause-alone
prepare_page-requires-clause-alone c =
    subst (λ s. count_at c.have.new.sheaves.sheaves s ≡ 1)
    (sym (get_or_read c.have.new.list.items _ _ (there_after c.args.list.now.items c.have.new.list.items c.args.k c.in_ok-have.ensures.len) c.index.ensures 0))
    c.in_ok-have.ensures.alone

pub prepare_page-requires-clause-near : goal.prepare_page-requires-clause-near
prepare_page-requires-clause-near c =
    let there = there_after c.args.list.now.items c.have.new.list.items c.args.k c.in_ok-have.ensures.len in
    let long = ap length c.in_ok-have.ensures.same in
    subst (λ s. c.args.k % 128 ≤ length (bytes_at c.have.new.sheaves.sheaves s)) (sym (get_or_read c.have.new.list.items _ _ there c.index.ensures 0))
    (near_place c.have.new.sheaves.sheaves c.have.new.list.items c.args.k c.in_ok-have.ensures.prepared.full (let near = c.requires.near in omega arith) there)

pub returns-clause-prepared : goal.returns-clause-prepared
returns-clause-prepared c =
    let there = there_after c.args.list.now.items c.have.new.list.items c.args.k c.in_ok-have.ensures.len in
    let read = get_or_read c.have.new.list.items _ _ there c.index.ensures 0 in
    list_prepared_trans c.args.sheaves.now c.have.new.sheaves c.prepare_page.new.self c.args.list.now.items c.have.new.list.items c.have.new.list.items
    c.in_ok-have.ensures.prepared
    (step_prepared c.have.new.sheaves c.prepare_page.new.self c.have.new.list.items (c.args.k / 128) (c.args.k % 128) c.prepare_page.ensures.stocked
    (counted_exchanged c.args.sheaves.now c.have.new.sheaves c.args.list.now.items c.have.new.list.items c.in_ok-have.ensures.prepared.exchanged c.requires.counted)
    c.in_ok-have.ensures.prepared.apart c.in_ok-have.ensures.prepared.full there (omega arith)
    (steps_made c.have.new.sheaves c.prepare_page.new.self c.have.new.list.items (c.args.k / 128) (c.args.k % 128) _ read c.in_ok-have.ensures.alone
    c.prepare_page.ensures.changed c.prepare_page.ensures.count c.prepare_page.ensures.prepared c.prepare_page.ensures.most c.prepare_page.ensures.others))

pub returns-clause-long : goal.returns-clause-long
returns-clause-long c =
    let there = there_after c.args.list.now.items c.have.new.list.items c.args.k c.in_ok-have.ensures.len in
    let read = get_or_read c.have.new.list.items _ _ there c.index.ensures 0 in
    on_ok c.prepare_page.result
    (λ long. page_longer c.prepare_page.new.self.sheaves c.have.new.list.items c.args.k _
    (subst (λ s. length (bytes_at c.prepare_page.new.self.sheaves s) ≡ max (length (bytes_at c.have.new.sheaves.sheaves s)) (c.args.k % 128 + 1)) read long)
    (step_full c.have.new.sheaves c.prepare_page.new.self c.have.new.list.items (c.args.k / 128) (c.args.k % 128)
    (counted_exchanged c.args.sheaves.now c.have.new.sheaves c.args.list.now.items c.have.new.list.items c.in_ok-have.ensures.prepared.exchanged c.requires.counted)
    c.in_ok-have.ensures.prepared.full there (omega arith)
    (steps_made c.have.new.sheaves c.prepare_page.new.self c.have.new.list.items (c.args.k / 128) (c.args.k % 128) _ read c.in_ok-have.ensures.alone
    c.prepare_page.ensures.changed c.prepare_page.ensures.count c.prepare_page.ensures.prepared c.prepare_page.ensures.most c.prepare_page.ensures.others)) there)
    c.prepare_page.ensures.len

pub returns-clause-ready : goal.returns-clause-ready
returns-clause-ready c = λ byte needs.
    let there = there_after c.args.list.now.items c.have.new.list.items c.args.k c.in_ok-have.ensures.len in
    let read = get_or_read c.have.new.list.items _ _ there c.index.ensures 0 in
    on_ok c.prepare_page.result
    (λ ready. ready_own c.prepare_page.new.self c.have.new.list.items c.args.k byte _ read
    (step_full c.have.new.sheaves c.prepare_page.new.self c.have.new.list.items (c.args.k / 128) (c.args.k % 128)
    (counted_exchanged c.args.sheaves.now c.have.new.sheaves c.args.list.now.items c.have.new.list.items c.in_ok-have.ensures.prepared.exchanged c.requires.counted)
    c.in_ok-have.ensures.prepared.full there (omega arith)
    (steps_made c.have.new.sheaves c.prepare_page.new.self c.have.new.list.items (c.args.k / 128) (c.args.k % 128) _ read c.in_ok-have.ensures.alone
    c.prepare_page.ensures.changed c.prepare_page.ensures.count c.prepare_page.ensures.prepared c.prepare_page.ensures.most c.prepare_page.ensures.others)) there
    c.prepare_page.ensures.count ready)
    (c.prepare_page.ensures.ready byte needs)

pub returns-in_err-have-clause-grown : goal.returns-in_err-have-clause-grown
returns-in_err-have-clause-grown c = grown_more 0 _ 1 _ c.args.sheaves.now c.have.new.sheaves c.in_err-have.ensures.grown (omega arith) (omega arith)

pub returns-clause-grown : goal.returns-clause-grown
returns-clause-grown c =
    let there = there_after c.args.list.now.items c.have.new.list.items c.args.k c.in_ok-have.ensures.len in
    let read = get_or_read c.have.new.list.items _ _ there c.index.ensures 0 in
    let alone = subst (λ s. count_at c.have.new.sheaves.sheaves s ≡ 1) (sym read) c.in_ok-have.ensures.alone in
    grown_more (0 + 1) _ 1 _ c.args.sheaves.now c.prepare_page.new.self
    (grown_trans 0 _ 1 0 c.args.sheaves.now c.have.new.sheaves c.prepare_page.new.self c.in_ok-have.ensures.grown
    (page_grown c.have.new.sheaves c.prepare_page.new.self _ alone c.prepare_page.ensures.count c.prepare_page.ensures.changed c.prepare_page.ensures.places
    c.prepare_page.ensures.page_places c.prepare_page.ensures.used))
    (omega arith) (omega arith)
