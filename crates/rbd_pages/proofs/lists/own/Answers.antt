use Rattle.std.proofs.Common.{ap, arith}
use Rattle.std.proofs.lemmas.List.{get_or_read}
use Rattle.rbd_pages.specs.Sheets.{Sheet}
use Rattle.rbd_pages.proofs.PagingLemmas.{counted_read}
use Rattle.rbd_pages.proofs.ListsLemmas.{copies_made, list_prepared_refl, own_alone, own_prepared, own_refused, sheaf_alone}
use Rattle.rbd_pages.proofs.GrownLemmas.{copy_grown, grown_refl, none_grown, none_of}
use Rattle.rbd_pages.proofs.lists.own.Goals as goal

pub count-requires : goal.count-requires
count-requires c = counted_read c.args.sheaves.now.sheaves c.args.list.now.items c.args.m _ c.index-index.ensures c.requires.counted c.requires.there

pub returns-in_err-copy-clause-prepared : goal.returns-in_err-copy-clause-prepared
returns-in_err-copy-clause-prepared c =
    own_refused c.args.sheaves.now c.copy.new.self c.args.list.now.items c.count.ensures.stocked c.requires.apart c.requires.full
    c.in_err-copy.ensures.err c.in_err-copy.ensures.same c.in_err-copy.ensures.bytes

pub returns-in_ok-copy-clause-prepared : goal.returns-in_ok-copy-clause-prepared
returns-in_ok-copy-clause-prepared c =
    (own_prepared c.args.sheaves.now c.copy.new.self c.release.new.self c.args.list.now.items c.args.m c.in_ok-copy.copy c.count.ensures.stocked
    c.requires.counted c.requires.apart c.requires.full c.requires.there
    (copies_made c.args.sheaves.now c.copy.new.self c.release.new.self c.index-index.result.now _ c.in_ok-copy.copy
    (get_or_read c.args.list.now.items c.args.m _ c.requires.there c.index-index.ensures 0)
    (let count = c.count.ensures.count in let more = c.if-count-gt1.true in omega arith)
    c.in_ok-copy.ensures.free c.in_ok-copy.ensures.changed c.in_ok-copy.ensures.sheaf c.in_ok-copy.ensures.counts c.in_ok-copy.ensures.bytes
    c.release.ensures.changed c.release.ensures.sheaf c.release.ensures.shared)).0

pub returns-in_ok-copy-clause-same : goal.returns-in_ok-copy-clause-same
returns-in_ok-copy-clause-same c =
    (own_prepared c.args.sheaves.now c.copy.new.self c.release.new.self c.args.list.now.items c.args.m c.in_ok-copy.copy c.count.ensures.stocked
    c.requires.counted c.requires.apart c.requires.full c.requires.there
    (copies_made c.args.sheaves.now c.copy.new.self c.release.new.self c.index-index.result.now _ c.in_ok-copy.copy
    (get_or_read c.args.list.now.items c.args.m _ c.requires.there c.index-index.ensures 0)
    (let count = c.count.ensures.count in let more = c.if-count-gt1.true in omega arith)
    c.in_ok-copy.ensures.free c.in_ok-copy.ensures.changed c.in_ok-copy.ensures.sheaf c.in_ok-copy.ensures.counts c.in_ok-copy.ensures.bytes
    c.release.ensures.changed c.release.ensures.sheaf c.release.ensures.shared)).1

pub returns-in_ok-copy-clause-alone : goal.returns-in_ok-copy-clause-alone
returns-in_ok-copy-clause-alone c =
    own_alone c.args.sheaves.now c.copy.new.self c.release.new.self c.args.list.now.items c.args.m c.in_ok-copy.copy c.requires.there
    (copies_made c.args.sheaves.now c.copy.new.self c.release.new.self c.index-index.result.now _ c.in_ok-copy.copy
    (get_or_read c.args.list.now.items c.args.m _ c.requires.there c.index-index.ensures 0)
    (let count = c.count.ensures.count in let more = c.if-count-gt1.true in omega arith)
    c.in_ok-copy.ensures.free c.in_ok-copy.ensures.changed c.in_ok-copy.ensures.sheaf c.in_ok-copy.ensures.counts c.in_ok-copy.ensures.bytes
    c.release.ensures.changed c.release.ensures.sheaf c.release.ensures.shared)

pub returns-else-count-gt1-clause-prepared : goal.returns-else-count-gt1-clause-prepared
returns-else-count-gt1-clause-prepared c = list_prepared_refl c.args.sheaves.now c.args.list.now.items c.requires.apart c.requires.full

pub returns-else-count-gt1-clause-alone : goal.returns-else-count-gt1-clause-alone
returns-else-count-gt1-clause-alone c =
    sheaf_alone c.args.sheaves.now.sheaves c.args.list.now.items c.args.m _ c.index-index.ensures c.requires.counted c.requires.there
    (let count = c.count.ensures.count in let few = c.if-count-gt1.false in omega arith)

pub returns-in_err-copy-clause-grown : goal.returns-in_err-copy-clause-grown
returns-in_err-copy-clause-grown c =
    none_grown _ _ c.args.sheaves.now c.copy.new.self
    (none_of c.args.sheaves.now c.copy.new.self c.in_err-copy.ensures.err c.in_err-copy.ensures.page_places c.in_err-copy.ensures.used)

pub returns-in_ok-copy-clause-grown : goal.returns-in_ok-copy-clause-grown
returns-in_ok-copy-clause-grown c =
    copy_grown c.args.sheaves.now c.copy.new.self c.release.new.self c.args.list.now.items c.args.m c.index-index.result.now c.in_ok-copy.copy
    (get_or_read c.args.list.now.items c.args.m _ c.requires.there c.index-index.ensures 0) c.requires.there
    (let count = c.count.ensures.count in let more = c.if-count-gt1.true in omega arith)
    c.in_ok-copy.ensures.free (ap (λ (s : Sheet). s.count) c.in_ok-copy.ensures.sheaf) c.in_ok-copy.ensures.changed c.in_ok-copy.ensures.most
    c.in_ok-copy.ensures.page_places c.in_ok-copy.ensures.used c.release.ensures.places

pub returns-else-count-gt1-clause-grown : goal.returns-else-count-gt1-clause-grown
returns-else-count-gt1-clause-grown c = grown_refl _ _ c.args.sheaves.now
